use Rattle.std.proofs.Common.{◌+◌, ◌*◌, take}
use Rattle.fy_types.specs.Paths.{no_paths, call, paths}
use Rattle.fy_types.specs.Rests.{Adds}
use Rattle.fy_derive.specs.Shown.{shown}
use Rattle.fy_derive.specs.Covers.{covered, AreUnder}
use Rattle.fy_derive.proofs.below.+below.Given as goal

abbrev pub invariant-rests_after_call-loop-member : goal.invariant-rests_after_call-loop-member
invariant-rests_after_call-loop-member l = record {
  rests : Adds (call (paths (shown l.table l.argument))) no_paths (covered l.table l.rests.items) (covered l.table (take l.member-index l.members));
  under : AreUnder l.fn.bound l.rests.items;
}

abbrev pub decreases-is_one_below : goal.decreases-is_one_below
decreases-is_one_below l = 2 * (l.a + l.b) + 1

abbrev pub decreases-is_meet_below : goal.decreases-is_meet_below
decreases-is_meet_below l = 2 * (l.bound + l.b)

abbrev pub decreases-rests_after_call : goal.decreases-rests_after_call
decreases-rests_after_call l = 2 * (l.bound + l.argument) + 1
