use Rattle.std.proofs.Common.{◌-◌, ◌^◌}
use Rattle.fy_derive.specs.Covers.{AreMet}
use Rattle.fy_derive.proofs.members.members_of.Given as goal

abbrev pub invariant-loop-i : goal.invariant-loop-i
invariant-loop-i l = AreMet l.table l.bound l.list l.met.keys l.singles.items l.i

abbrev pub decreases-loop-i : goal.decreases-loop-i
decreases-loop-i l = 2 ^ 63 - l.i
