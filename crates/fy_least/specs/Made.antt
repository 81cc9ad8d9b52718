-- Types that are made for subsumption.
use Rattle.std.specs.Prelude.{ℕ, ◌≡◌}
use Rattle.fy_types.specs.Types.{PlainType, arrow, field}
use Rattle.fy_types.specs.Paths.{PlainPaths}
use Rattle.fy_types.specs.Nested.{IsTypeOf}

-- an arrow from the type to one with the paths
abbrev pub IsArrowTo : PlainType → PlainPaths → PlainType → Type 0
IsArrowTo A R T = (B : PlainType) × IsTypeOf R B × (T ≡ arrow A B)

-- the field, of a type with the paths
abbrev pub IsFieldOf : ℕ → PlainPaths → PlainType → Type 0
IsFieldOf i R T = (A : PlainType) × IsTypeOf R A × (T ≡ field i A)
