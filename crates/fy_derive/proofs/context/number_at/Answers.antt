use Rattle.std.proofs.Common.{ℕ, ◌<◌, ◌≤◌, ◌≡◌, List, length, get_or, Option, Some, None, IfSome, slice_get, sym, ap, ◌∙◌, refl, Bor}
use Rattle.std.specs.Prelude.{MatchOption}
use Rattle.std.specs.Option.{option_copied}
use Rattle.std.proofs.lemmas.Option.{slice_get_past, slice_get_read}
use Rattle.fy_derive.specs.Contexts.{numbers}
use Rattle.fy_derive.proofs.ContextLemmas.{numbers-outside, numbers-under, next_place}
use Rattle.fy_derive.proofs.context.number_at.Goals as goal

-- a number that is read from a list
read_number : (H : Bor ℕ → Type 0) (o : Option (Bor ℕ)) (ks : List ℕ) (i : ℕ) → IfSome o (λ x. x.now ≡ get_or ks i x.now) →
    MatchOption o (length ks ≤ i) (λ x. (i < length ks) × H x) → option_copied o ≡ slice_get ks i
read_number H None ks i same place = sym (slice_get_past ks i place)
read_number H (Some x) ks i same place = sym (slice_get_read ks (length ks) i x.now refl place.0 same)

pub returns-in-Outside : goal.returns-in-Outside
returns-in-Outside c =
    c.copied.ensures
    ∙ (read_number _ c.get.result c.in-Outside.numbers.now c.loop-rest.left c.get.ensures.lookup.1 c.get.ensures.lookup.3
    ∙ (ap (λ ks. slice_get ks c.loop-rest.left) (sym (numbers-outside _ _ c.in-Outside.is)) ∙ c.loop-rest.invariant))

pub loop-rest-preserved : goal.loop-rest-preserved
loop-rest-preserved c =
    sym (next_place c.in-Under.number (numbers c.in-Under.outer.now) c.loop-rest.left c.if-left-eq0.false)
    ∙ (ap (λ ks. slice_get ks c.loop-rest.left) (sym (numbers-under _ _ _ c.in-Under.is)) ∙ c.loop-rest.invariant)
