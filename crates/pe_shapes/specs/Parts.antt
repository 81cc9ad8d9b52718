-- The parts of a phrase, and how large they are.
use Rattle.std.specs.Prelude.{ℕ, ◌+◌, ◌<◌, ◌≤◌, ◌≡◌, List, [], ◌∷◌, map, length, slice_get, Some, unwrap_or}
use Rattle.fy_phrase.specs.Tree.{Tree}
use Rattle.fy_phrase.specs.Reads.{reads}
use Rattle.fy_phrase.specs.Sizes.{nodes}
use Rattle.fy_derive.specs.Rules.{nothing, Premise, premises}
use Rattle.fy_derive.specs.Shapes.{parts_of, IsNodeAmong}
use Rattle.fy_phrase.specs.declared.premise.Premise.{Premise as PremiseValue}

-- the premises of a phrase's rule, or its parts alone where it has none
abbrev pub bound_parts : Tree → List Premise
bound_parts p = unwrap_or (premises p) (map (λ q. (nothing, q)) (parts_of p))

-- the phrases of parts
abbrev pub parts_in : List PremiseValue → List Tree
parts_in Ps = map (λ P. reads P.part.now) Ps

-- the nodes of all phrases of a list
abbrev pub total_nodes : List Tree → ℕ
total_nodes [] = 0
total_nodes (p ∷ ps) = nodes p + total_nodes ps

-- the list tells how many nodes each node of the phrases has below it, with itself; the first phrase has the number m
pub record AreSizes (sizes : List ℕ) (m : ℕ) (ps : List Tree) : Type 0 where
  pub each : (k : ℕ) (q : Tree) → IsNodeAmong m ps k q → slice_get sizes k ≡ Some (nodes q)
  pub fits : m + total_nodes ps ≤ length sizes

-- what stands in the old list stands at the same place in the new one
pub record Keeps (old new : List ℕ) : Type 0 where
  pub more : length old ≤ length new
  pub same : (k : ℕ) → k < length old → slice_get new k ≡ slice_get old k
