-- A path form that is held with its size.
use Rattle.std.specs.Prelude.{◌≡◌}
use Rattle.fy_types.specs.Paths.{PlainPaths}
use Rattle.fy_types.specs.Reading.{plain_paths}
use Rattle.fy_types.specs.Limits.{all_nodes, all_nesting, IsWithinLimits}
use Rattle.fy_forms.specs.declared.sized.Sized.{Sized}

-- it holds these paths, the numbers are theirs, and they keep the limits
pub record IsSized (s : Sized) (P : PlainPaths) : Type 0 where
  pub paths : plain_paths s.paths ≡ P
  pub nodes : s.nodes ≡ all_nodes P
  pub nesting : s.nesting ≡ all_nesting P
  pub within : IsWithinLimits P
