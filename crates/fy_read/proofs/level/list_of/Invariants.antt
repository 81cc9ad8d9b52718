use Rattle.std.proofs.Common.{◌≡◌}
use Rattle.fy_types.specs.Reading.{types_in}
use Rattle.fy_read.proofs.level.list_of.Given as goal

abbrev pub invariant-loop-ty : goal.invariant-loop-ty
invariant-loop-ty l = types_in l.list ≡ l.yielded
