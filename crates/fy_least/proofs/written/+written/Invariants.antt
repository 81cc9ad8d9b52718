use Rattle.std.proofs.Common.{◌≡◌}
use Rattle.fy_types.specs.Once.{once}
use Rattle.fy_types.specs.Reading.{plain_paths}
use Rattle.fy_types.proofs.Making.{first_paths}
use Rattle.fy_least.proofs.written.+written.Given as goal

abbrev pub invariant-once_in_all-loop-ty : goal.invariant-once_in_all-loop-ty
invariant-once_in_all-loop-ty l = plain_paths l.paths ≡ once (first_paths l.ty-index l.ty-items)
