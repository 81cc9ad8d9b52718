use Rattle.std.proofs.Common.{◌≡◌, take}
use Rattle.fy_types.specs.Reading.{plain_paths}
use Rattle.fy_types.specs.Once.{once}
use Rattle.fy_least.proofs.CallLemmas.{bodies_called}
use Rattle.fy_least.proofs.many.paths_of_calls.Given as goal

abbrev pub invariant-loop-i : goal.invariant-loop-i
invariant-loop-i l = plain_paths l.paths ≡ once (bodies_called (take l.i l.alternatives) (take l.i l.bodies))
