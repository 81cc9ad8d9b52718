use Rattle.std.proofs.Common.{◌↔◌, drop}
use Rattle.fy_types.specs.Paths.{end}
use Rattle.fy_types.specs.PathOrder.{HasBelow}
use Rattle.fy_types.specs.Rests.{listed}
use Rattle.fy_types.proofs.below.has_listed_end.Given as goal

abbrev pub invariant-loop-ty : goal.invariant-loop-ty
invariant-loop-ty l = HasBelow (listed (drop l.ty-index l.list)) (end l.end) ↔ HasBelow (listed l.list) (end l.end)
