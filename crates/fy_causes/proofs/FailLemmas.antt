-- What is hollow in the part that fails.
use Rattle.std.proofs.Common.{ℕ, zero, suc, ◌-◌, ◌<◌, ◌≤◌, ◌≡◌, ◌≢◌, false, List, length, map, get_or, Option, Some, None, option_map, refl, sym, ap, ◌∙◌, arith}
use Rattle.std.specs.Prelude.{if◌then◌else◌}
use Rattle.std.proofs.lemmas.List.{length-map}
use Rattle.std.proofs.lemmas.Option.{slice_get-map, slice_get_past, slice_get_read}
use Rattle.fy_base.specs.declared.data.Place.{Place}
use Rattle.fy_phrase.specs.Tree.{Tree, var, merge}
use Rattle.fy_derive.specs.Clear.{has_none}
use Rattle.fy_derive.specs.Kinds.{Kind}
use Rattle.fy_causes.specs.declared.parts.Part.{Part}
use Rattle.fy_causes.specs.Occurrences.{Variable, Occurrence, occurs, least_in}
use Rattle.fy_causes.specs.Hollow.{Failed, definition_of, hollow, hollow_part, itself_or, most_through, taker, then_in}
use Rattle.fy_causes.specs.Readings.{part_at}

-- the part at the index
pub failing-within : (ps : List Part) (f : Failed) (x : Part) → f.index < length ps → x ≡ get_or ps f.index x →
    hollow most_through f.demand (part_at x).around (part_at x).phrase ≡ hollow_part (map part_at ps) (Some f)
failing-within ps f x within is =
    sym (ap (λ o. then_in o (hollow most_through f.demand))
    (slice_get-map part_at ps f.index ∙ ap (option_map part_at) (slice_get_read ps (length ps) f.index x refl within is)))

pub failing-past : (ps : List Part) (f : Failed) → length ps ≤ f.index → None ≡ hollow_part (map part_at ps) (Some f)
failing-past ps f past =
    sym (ap (λ o. then_in o (hollow most_through f.demand)) (slice_get_past (map part_at ps) f.index (omega (arith, length-map ps part_at))))

-- a merge, whose operand has more than `ns`, and a name
less-one : (n : ℕ) → suc n - 1 ≡ n
less-one n = omega arith

pub through-merge : (n : ℕ) (k : Option Kind) (G : List Variable) (p q o : Tree) (at : Place) → n ≢ 0 → o ≡ taker k p q → has_none (least_in G o) ≡ false →
    hollow (n - 1) k G o ≡ hollow n k G (merge p q at)
through-merge zero k G p q o at some is full = absurd (some refl)
through-merge (suc n) k G p q o at some is full =
    ap (λ m. hollow m k G o) (less-one n)
    ∙ (sym (ap (λ b. if b then Some (occurs G o) else hollow n k G o) full) ∙ ap (λ x. itself_or G x (hollow n k G x)) is)

pub through-name : (n : ℕ) (k : Option Kind) (G : List Variable) (i : ℕ) (o : Occurrence) (at : Place) → n ≢ 0 → definition_of G i ≡ Some o →
    hollow (n - 1) k o.around o.phrase ≡ hollow n k G (var i at)
through-name zero k G i o at some known = absurd (some refl)
through-name (suc n) k G i o at some known =
    ap (λ m. hollow m k o.around o.phrase) (less-one n) ∙ sym (ap (λ x. then_in x (hollow n k)) known)
