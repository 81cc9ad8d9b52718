-- What is told behind a cause has only `ns`.
use Rattle.std.proofs.Common.{ℕ, zero, suc, ◌≡◌, ◌⊎◌, Bool, true, false, List, Option, Some, None, inl, inr, refl, sym, ap, ◌∙◌}
use Rattle.std.specs.Prelude.{if◌then◌else◌, slice_get}
use Rattle.fy_types.specs.declared.types.Atom.TheVariants.{Comm}
use Rattle.fy_phrase.specs.Tree.{Tree, var, merge}
use Rattle.fy_derive.specs.Clear.{has_none}
use Rattle.fy_derive.specs.Kinds.{Kind}
use Rattle.fy_causes.specs.Occurrences.{Variable, Occurrence, occurs, least_in, least_of, parts_of}
use Rattle.fy_causes.specs.Blamed.{blamed}
use Rattle.fy_causes.specs.Causes.{cause_of}
use Rattle.fy_causes.specs.Hollow.{Failed, failed, definition_of, itself_or, taker, then_in, hollow, hollow_part, hollow_behind, most_through}
use Rattle.fy_causes.specs.Facts.{IsCauseSo}
use Rattle.fy_causes.proofs.BlameLemmas.{stuck}
use Rattle.fy_causes.proofs.CauseLemmas.{cause-so}
use Rattle.fy_causes.proofs.EmptyLemmas.{none-had}

found-itself : (G : List Variable) (p : Tree) (o : Option Occurrence) (h : Occurrence) →
    (o ≡ Some h → has_none (least_of h) ≡ true) → itself_or G p o ≡ Some h → has_none (least_of h) ≡ true
found-itself G p o h later e = cases (has_none (least_in G p)) refl e
  where
    same : {a b : Occurrence} → Some a ≡ Some b → a ≡ b
    same e = cc

    cases : (b : Bool) → has_none (least_in G p) ≡ b → (if b then Some (occurs G p) else o) ≡ Some h → has_none (least_of h) ≡ true
    cases true f g = ap (λ x. has_none (least_of x)) (sym (same g)) ∙ f
    cases false f g = later g

found-then : (o : Option Occurrence) (f : List Variable → Tree → Option Occurrence) (h : Occurrence) →
    ((G : List Variable) (p : Tree) → f G p ≡ Some h → has_none (least_of h) ≡ true) → then_in o f ≡ Some h → has_none (least_of h) ≡ true
found-then None f h all e = absurd (cc)
found-then (Some o) f h all e = all o.around o.phrase e

hollow-empty : (n : ℕ) (k : Option Kind) (G : List Variable) (p : Tree) (h : Occurrence) → hollow n k G p ≡ Some h → has_none (least_of h) ≡ true
hollow-empty zero k G p h e = absurd (cc)
hollow-empty (suc n) k G (merge p q at) h e =
    found-itself G (taker k p q) (hollow n k G (taker k p q)) h (λ f. hollow-empty n k G (taker k p q) h f) e
hollow-empty (suc n) k G (var i at) h e =
    found-then (definition_of G i) (hollow n k) h (λ H q f. hollow-empty n k H q h f) e
hollow-empty (suc n) k G p h e = absurd (cc)

part-empty : (os : List Occurrence) (f : Option Failed) (h : Occurrence) → hollow_part os f ≡ Some h → has_none (least_of h) ≡ true
part-empty os None h e = absurd (cc)
part-empty os (Some f) h e =
    found-then (slice_get os f.index) (hollow most_through f.demand) h (λ G p g. hollow-empty most_through f.demand G p h g) e

-- what is blamed in what has only `ns` has only `ns`
pub blamed-empty : (G : List Variable) (p : Tree) → has_none (least_in G p) ≡ true → has_none (least_of (blamed G p)) ≡ true
blamed-empty G p e = cases (stuck G p).only_ns
  where
    cases : (blamed G p ≡ occurs G p) ⊎ (has_none (least_of (blamed G p)) ≡ true) → has_none (least_of (blamed G p)) ≡ true
    cases (inl f) = ap (λ x. has_none (least_of x)) f ∙ e
    cases (inr f) = f

pub second-so : (o h : Occurrence) → hollow_behind o ≡ Some h → (has_none (least_of h) ≡ true) × IsCauseSo (blamed h.around h.phrase)
second-so o h e =
    let empty = part-empty (parts_of o.around o.phrase) (failed o.phrase (cause_of o.around o.phrase)) h e in
    let b = blamed h.around h.phrase in
    (empty, cause-so b.around b.phrase (stuck h.around h.phrase).full (none-had (least_of b) Comm (blamed-empty h.around h.phrase empty)))
