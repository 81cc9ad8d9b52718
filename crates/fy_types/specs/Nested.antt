-- How large a type is and how deep it nests, and a type that is made of a path form.
use Rattle.std.specs.Prelude.{ℕ, suc, ◌+◌, ◌*◌, ◌≤◌, ◌≡◌, max}
use Rattle.fy_types.specs.Types.{PlainType, PlainTypes, ns, atom, arrow, field, meet, no_types, and_type}
use Rattle.fy_types.specs.Paths.{PlainPaths, paths}
use Rattle.fy_types.specs.Limits.{all_nesting}
use Rattle.fy_types.specs.Fields.{HasFullMeets, fields_in, fields_in_form}

abbrev mutual
  -- the number of nodes
  pub type_nodes : PlainType → ℕ
  type_nodes ns = 1
  type_nodes (atom a) = 1
  type_nodes (arrow A B) = suc (type_nodes A + type_nodes B)
  type_nodes (field i A) = suc (type_nodes A)
  type_nodes (meet As) = suc (types_nodes As)

  pub types_nodes : PlainTypes → ℕ
  types_nodes no_types = 0
  types_nodes (and_type A As) = type_nodes A + types_nodes As

abbrev mutual
  -- the greatest number of nodes of a type on one path
  pub type_nesting : PlainType → ℕ
  type_nesting ns = 1
  type_nesting (atom a) = 1
  type_nesting (arrow A B) = 1 + max (type_nesting A) (type_nesting B)
  type_nesting (field i A) = 1 + type_nesting A
  type_nesting (meet As) = 1 + types_nesting As

  pub types_nesting : PlainTypes → ℕ
  types_nesting no_types = 0
  types_nesting (and_type A As) = max (type_nesting A) (types_nesting As)

-- a type with the paths, which nests at most twice as deep as they do and one more, with full meets and with their fields
abbrev pub IsTypeOf : PlainPaths → PlainType → Type 0
IsTypeOf P A =
    (paths A ≡ P) × (type_nesting A ≤ 2 * all_nesting P + 1) × HasFullMeets A × (fields_in A ≡ fields_in_form P)
