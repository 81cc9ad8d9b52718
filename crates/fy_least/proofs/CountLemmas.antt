-- Limits on types, visit by visit: visits that are put together, and what the limits say of them all.
use Rattle.std.proofs.Common.{ℕ, suc, ◌+◌, ◌<◌, ◌≤◌, ◌≡◌, ◌⊎◌, List, [], ◌∷◌, ◌++◌, All, Any, sum_by, inl, inr, refl, sym, ap, ◌∙◌, subst, arith}
use Rattle.std.proofs.lemmas.List.Elements.{All-nil, All-cons}
use Rattle.std.proofs.lemmas.List.Recursion.{is_sum_by}
use Rattle.fy_types.specs.Paths.{PlainPaths}
use Rattle.fy_types.specs.Limits.{all_nodes, IsWithinLimits, IsTooLarge}
use Rattle.fy_phrase.specs.Tree.{Tree}
use Rattle.fy_derive.specs.Least.{Visit, visit, least_type}
use Rattle.fy_least.specs.Limits.{earlier_joins, least_at, written_in, written_at, all_least, all_written, most_together, KeepTypeLimits, PassTypeLimits}
use Rattle.fy_least.specs.Counts.{nodes_of_forms, nodes_of_visits, AreWithin, no_forms, and_form, AreVisitsWithin, no_visits, and_visit, SomeTooLarge, this_form, later_form, SomeVisitTooLarge, least_large, written_large, later_large, PassLimits}
use Rattle.fy_least.specs.Visited.{IsRefused}

-- visits that are put together
pub within-append : {A B : List Visit} → AreVisitsWithin A → AreVisitsWithin B → AreVisitsWithin (A ++ B)
within-append no_visits b = b
within-append (and_visit l w a) b = and_visit l w (within-append a b)

pub nodes-append : (A B : List Visit) → nodes_of_visits (A ++ B) ≡ nodes_of_visits A + nodes_of_visits B
nodes-append [] B = omega arith
nodes-append (v ∷ A) B = omega (arith, nodes-append A B)

large-left : {A : List Visit} (B : List Visit) → SomeVisitTooLarge A → SomeVisitTooLarge (A ++ B)
large-left B (least_large h) = least_large h
large-left B (written_large h) = written_large h
large-left B (later_large h) = later_large (large-left B h)

large-right : (A : List Visit) {B : List Visit} → SomeVisitTooLarge B → SomeVisitTooLarge (A ++ B)
large-right [] h = h
large-right (v ∷ A) h = later_large (large-right A h)

pub pass-left : (A B : List Visit) → PassLimits A → PassLimits (A ++ B)
pass-left A B (inl h) = inl (large-left B h)
pass-left A B (inr h) = inr (omega (arith, nodes-append A B))

pub pass-right : (A B : List Visit) → PassLimits B → PassLimits (A ++ B)
pass-right A B (inl h) = inl (large-right A h)
pass-right A B (inr h) = inr (omega (arith, nodes-append A B))

pub pass-behind : (v : Visit) (vs : List Visit) → PassLimits vs → PassLimits (v ∷ vs)
pass-behind v vs (inl h) = inl (later_large h)
pass-behind v vs (inr h) = inr (omega arith)

-- one visit before others, where no joins count beside its least type
pub visit-nodes : (m : ℕ) (G : List PlainPaths) (q : Tree) (vs : List Visit) → earlier_joins G q ≡ [] →
    nodes_of_visits (visit m G q ∷ vs) ≡ all_nodes (least_type G q) + nodes_of_visits vs
visit-nodes m G q vs early =
    let alone : nodes_of_forms (earlier_joins G q ++ least_type G q ∷ []) ≡ all_nodes (least_type G q) + 0 =
    ap (λ Js. nodes_of_forms (Js ++ least_type G q ∷ [])) early in
    omega (arith, alone)

pub visit-within : (m : ℕ) (G : List PlainPaths) (q : Tree) (vs : List Visit) → earlier_joins G q ≡ [] → AreWithin (written_in q) →
    IsWithinLimits (least_type G q) → AreVisitsWithin vs → AreVisitsWithin (visit m G q ∷ vs)
visit-within m G q vs early written h rest =
    and_visit (subst (λ Js. AreWithin (Js ++ least_type G q ∷ [])) (sym early) (and_form h no_forms)) written rest

pub visit-passes : (m : ℕ) (G : List PlainPaths) (q : Tree) (vs : List Visit) (parts : ℕ) → earlier_joins G q ≡ [] →
    parts ≡ nodes_of_visits vs → IsRefused (least_type G q) parts → PassLimits (visit m G q ∷ vs)
visit-passes m G q vs parts early total (inl large) =
    inl (least_large (subst (λ Js. SomeTooLarge (Js ++ least_type G q ∷ [])) (sym early) (this_form large)))
visit-passes m G q vs parts early total (inr many) = inr (omega (arith, visit-nodes m G q vs early))

-- the limits on all visits, in the words of the limits on all types
forms-append : {A B : List PlainPaths} → AreWithin A → AreWithin B → AreWithin (A ++ B)
forms-append no_forms b = b
forms-append (and_form h a) b = and_form h (forms-append a b)

all-within : {Ps : List PlainPaths} → AreWithin Ps → All IsWithinLimits Ps
all-within no_forms = All-nil IsWithinLimits
all-within (and_form {P = P} {Ps = Ps} h r) = All-cons IsWithinLimits P Ps h (all-within r)

least-within : {vs : List Visit} → AreVisitsWithin vs → AreWithin (all_least vs)
least-within no_visits = no_forms
least-within (and_visit l w r) = forms-append l (least-within r)

written-within : {vs : List Visit} → AreVisitsWithin vs → AreWithin (all_written vs)
written-within no_visits = no_forms
written-within (and_visit l w r) = forms-append w (written-within r)

forms-nodes : (A B : List PlainPaths) → nodes_of_forms (A ++ B) ≡ nodes_of_forms A + nodes_of_forms B
forms-nodes [] B = omega arith
forms-nodes (P ∷ A) B = omega (arith, forms-nodes A B)

least-nodes : (vs : List Visit) → nodes_of_forms (all_least vs) ≡ nodes_of_visits vs
least-nodes [] = refl
least-nodes (v ∷ vs) = omega (arith, forms-nodes (least_at v) (all_least vs), least-nodes vs)

all-nodes : (vs : List Visit) → nodes_of_visits vs ≡ sum_by all_nodes (all_least vs)
all-nodes vs = sym (least-nodes vs) ∙ is_sum_by nodes_of_forms all_nodes refl (λ P Ps. refl) (all_least vs)

pub limits-kept : (vs : List Visit) → AreVisitsWithin vs → nodes_of_visits vs ≤ most_together → KeepTypeLimits vs
limits-kept vs h low = record {
  least = all-within (least-within h);
  written = all-within (written-within h);
  together = subst (λ n. n ≤ most_together) (all-nodes vs) low;
}

some-left : {A : List PlainPaths} (B : List PlainPaths) → SomeTooLarge A → SomeTooLarge (A ++ B)
some-left B (this_form h) = this_form h
some-left B (later_form h) = later_form (some-left B h)

some-right : (A : List PlainPaths) {B : List PlainPaths} → SomeTooLarge B → SomeTooLarge (A ++ B)
some-right [] h = h
some-right (P ∷ A) h = later_form (some-right A h)

some-any : {Ps : List PlainPaths} → SomeTooLarge Ps → Any IsTooLarge Ps
some-any (this_form {P = P} {Ps = Ps} h) = (0, P, omega arith, refl, h)
some-any (later_form {P = P} {Ps = Ps} h) = let x = some-any h in (suc x.0, x.1, omega (arith, x.2), x.3, x.4)

some-of_visits : {vs : List Visit} → SomeVisitTooLarge vs → SomeTooLarge (all_least vs) ⊎ SomeTooLarge (all_written vs)
some-of_visits (least_large {v = v} {vs = vs} h) = inl (some-left (all_least vs) h)
some-of_visits (written_large {v = v} {vs = vs} h) = inr (some-left (all_written vs) h)
some-of_visits (later_large {v = v} {vs = vs} h) = later (some-of_visits h)
  where
    later : SomeTooLarge (all_least vs) ⊎ SomeTooLarge (all_written vs) → SomeTooLarge (all_least (v ∷ vs)) ⊎ SomeTooLarge (all_written (v ∷ vs))
    later (inl a) = inl (some-right (least_at v) a)
    later (inr a) = inr (some-right (written_at v) a)

pub limits-passed : (vs : List Visit) → PassLimits vs → PassTypeLimits vs
limits-passed vs (inl h) = inl (some (some-of_visits h))
  where
    some : SomeTooLarge (all_least vs) ⊎ SomeTooLarge (all_written vs) → Any IsTooLarge (all_least vs) ⊎ Any IsTooLarge (all_written vs)
    some (inl a) = inl (some-any a)
    some (inr a) = inr (some-any a)
limits-passed vs (inr h) = inr (subst (λ n. most_together < n) (all-nodes vs) h)
