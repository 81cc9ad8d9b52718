-- The limits on derivations and on the types in them.
use Rattle.std.specs.Prelude.{ℕ, ◌≤◌, max}
use Rattle.fy_types.specs.Nested.{type_nesting}
use Rattle.fy_derive.specs.Derivations.{PlainDerivation, PlainDerivations, by_ns, sub, meets, alt, left, right, rule, no_derivations, and_derivation, nodes, nesting, most_nodes, most_nesting}

abbrev mutual
  -- the nesting of the deepest type in a derivation, or 0 where there is none
  pub deepest_type : PlainDerivation → ℕ
  deepest_type by_ns = 0
  deepest_type (sub T d) = max (type_nesting T) (deepest_type d)
  deepest_type (meets ds) = deepest_of_all ds
  deepest_type (alt i d) = deepest_type d
  deepest_type (left d) = deepest_type d
  deepest_type (right d) = deepest_type d
  deepest_type (rule ds) = deepest_of_all ds

  pub deepest_of_all : PlainDerivations → ℕ
  deepest_of_all no_derivations = 0
  deepest_of_all (and_derivation d ds) = max (deepest_type d) (deepest_of_all ds)

abbrev pub most_type_nesting : ℕ
most_type_nesting = 1024

-- the derivation keeps the limits on its nodes, on its nesting and on that of its types
pub record KeepsLimits (d : PlainDerivation) : Type 0 where
  pub few : nodes d ≤ most_nodes
  pub shallow : nesting d ≤ most_nesting
  pub types : deepest_type d ≤ most_type_nesting
