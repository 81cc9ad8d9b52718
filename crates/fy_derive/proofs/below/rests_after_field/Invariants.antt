use Rattle.std.proofs.Common.{take}
use Rattle.fy_types.specs.Paths.{no_paths, pick}
use Rattle.fy_types.specs.Rests.{Adds}
use Rattle.fy_derive.specs.Covers.{covered, AreUnder}
use Rattle.fy_derive.proofs.below.rests_after_field.Given as goal

abbrev pub invariant-loop-member : goal.invariant-loop-member
invariant-loop-member l = record {
  rests : Adds (pick l.name) no_paths (covered l.table l.rests.items) (covered l.table (take l.member-index l.members));
  under : AreUnder l.bound l.rests.items;
}
