-- Lists of types, and what they give after one more demand.
use Rattle.std.specs.Prelude.{ℕ, List, [], ◌∷◌, map, max, ◌⊎◌}
use Rattle.std.specs.Borrow.{Bor}
use Rattle.fy_types.specs.declared.types.Ty.{Ty, size-Ty}
use Rattle.fy_types.specs.Paths.{PlainPath, PlainPaths, all_paths}
use Rattle.fy_types.specs.PathOrder.{HasBelow}
use Rattle.fy_types.specs.Reading.{plain_type, types_from}

-- the paths of the listed types
abbrev pub listed : List (Bor Ty) → PlainPaths
listed xs = all_paths (types_from (map (λ x. plain_type x.now) xs))

-- the greatest depth among the listed types
abbrev pub largest : List (Bor Ty) → ℕ
largest [] = 0
largest (x ∷ xs) = max (size-Ty x.now) (largest xs)

-- the new list has below a path what the old one has, and what the paths have below it with the demand in front
pub record Adds (demand : PlainPath → PlainPath) (old new P : PlainPaths) : Type 0 where
  pub had : (q : PlainPath) → HasBelow new q → HasBelow old q ⊎ HasBelow P (demand q)
  pub has : (q : PlainPath) → HasBelow old q ⊎ HasBelow P (demand q) → HasBelow new q
