use Rattle.std.proofs.Common.{◌≡◌, ◌<◌, ◌≤◌, length, drop}
use Rattle.fy_types.specs.Types.{meet}
use Rattle.fy_types.specs.Reading.{types_from}
use Rattle.fy_derive.specs.Shown.{total, shown, all_shown, Extends}
use Rattle.fy_derive.proofs.reading.number_of_meet.Given as goal

abbrev pub invariant-loop-i : goal.invariant-loop-i
invariant-loop-i l = record {
  place : l.i ≤ length l.members;
  within : l.whole < total l.table;
  stands : shown l.table l.whole ≡ meet (types_from (all_shown l.fn.table (drop l.i l.members)));
  extends : Extends l.fn.table l.table;
}

abbrev pub decreases-loop-i : goal.decreases-loop-i
decreases-loop-i l = l.i
