use Rattle.std.proofs.Common.{◌↔◌, drop}
use Rattle.fy_types.specs.Paths.{end}
use Rattle.fy_types.specs.PathOrder.{HasBelow}
use Rattle.fy_derive.specs.Covers.{covered}
use Rattle.fy_derive.proofs.below.has_end.Given as goal

abbrev pub invariant-loop-member : goal.invariant-loop-member
invariant-loop-member l = HasBelow (covered l.table (drop l.member-index l.members)) (end l.end) ↔ HasBelow (covered l.table l.members) (end l.end)
