-- The limits on types, visit by visit.
use Rattle.std.specs.Prelude.{ℕ, ◌+◌, ◌<◌, ◌⊎◌, List, [], ◌∷◌}
use Rattle.fy_types.specs.Paths.{PlainPaths}
use Rattle.fy_types.specs.Limits.{all_nodes, IsWithinLimits, IsTooLarge}
use Rattle.fy_derive.specs.Least.{Visit}
use Rattle.fy_least.specs.Limits.{least_at, written_at, most_together}

-- the nodes of all forms, and of the least types of all visits
abbrev pub nodes_of_forms : List PlainPaths → ℕ
nodes_of_forms [] = 0
nodes_of_forms (P ∷ Ps) = all_nodes P + nodes_of_forms Ps

abbrev pub nodes_of_visits : List Visit → ℕ
nodes_of_visits [] = 0
nodes_of_visits (v ∷ vs) = nodes_of_forms (least_at v) + nodes_of_visits vs

-- each form keeps the limits
pub data AreWithin : List PlainPaths → Type 0 where
  no_forms : AreWithin []
  and_form : {P : PlainPaths} {Ps : List PlainPaths} → IsWithinLimits P → AreWithin Ps → AreWithin (P ∷ Ps)

-- the types of each visit do
pub data AreVisitsWithin : List Visit → Type 0 where
  no_visits : AreVisitsWithin []
  and_visit : {v : Visit} {vs : List Visit} → AreWithin (least_at v) → AreWithin (written_at v) → AreVisitsWithin vs → AreVisitsWithin (v ∷ vs)

-- some form passes a limit
pub data SomeTooLarge : List PlainPaths → Type 0 where
  this_form : {P : PlainPaths} {Ps : List PlainPaths} → IsTooLarge P → SomeTooLarge (P ∷ Ps)
  later_form : {P : PlainPaths} {Ps : List PlainPaths} → SomeTooLarge Ps → SomeTooLarge (P ∷ Ps)

-- some type of a visit does
pub data SomeVisitTooLarge : List Visit → Type 0 where
  least_large : {v : Visit} {vs : List Visit} → SomeTooLarge (least_at v) → SomeVisitTooLarge (v ∷ vs)
  written_large : {v : Visit} {vs : List Visit} → SomeTooLarge (written_at v) → SomeVisitTooLarge (v ∷ vs)
  later_large : {v : Visit} {vs : List Visit} → SomeVisitTooLarge vs → SomeVisitTooLarge (v ∷ vs)

-- one of them, or all least types together
abbrev pub PassLimits : List Visit → Type 0
PassLimits vs = SomeVisitTooLarge vs ⊎ (most_together < nodes_of_visits vs)
