use Rattle.std.proofs.Common.{◌↔◌, ◌≤◌, ◌+◌, ◌*◌, max, map, take, drop}
use Rattle.fy_types.specs.declared.types.Ty.{size-Ty}
use Rattle.fy_types.specs.declared.types.TyList.{size-TyList}
use Rattle.fy_types.specs.Paths.{call, no_paths, paths, all_paths}
use Rattle.fy_types.specs.PathOrder.{ArePathsBelow}
use Rattle.fy_types.specs.Reading.{plain_type, plain_types, types_from}
use Rattle.fy_types.specs.Rests.{listed, largest, Adds}
use Rattle.fy_types.proofs.Making.{first_paths}
use Rattle.fy_types.proofs.below.+below.Given as goal

abbrev pub invariant-is_meet_below_all-loop-b : goal.invariant-is_meet_below_all-loop-b
invariant-is_meet_below_all-loop-b l =
    ArePathsBelow (listed l.list) (all_paths (types_from (map plain_type (drop l.b-index l.b-items))))
    ↔ ArePathsBelow (listed l.list) (all_paths (plain_types l.all))

abbrev pub invariant-rests_after_call-loop-ty : goal.invariant-rests_after_call-loop-ty
invariant-rests_after_call-loop-ty l = record {
  rests : Adds (call (paths (plain_type l.argument))) no_paths (listed l.made.items) (listed (take l.ty-index l.list));
  size : largest l.made.items ≤ largest l.list;
}

abbrev pub invariant-add_rests_after_call-loop-part : goal.invariant-add_rests_after_call-loop-part
invariant-add_rests_after_call-loop-part l = record {
  rests : Adds (call (paths (plain_type l.argument))) (listed l.initial.made.items) (listed l.made.items) (first_paths l.part-index l.part-items);
  size : largest l.made.items ≤ max (largest l.initial.made.items) (size-Ty l.ty);
}

-- the depths that are left, doubled, so that a function can stand above another at equal depths
abbrev pub decreases-is_one_below : goal.decreases-is_one_below
decreases-is_one_below l = 2 * (size-Ty l.a.now + size-Ty l.b.now) + 1

abbrev pub decreases-is_meet_below : goal.decreases-is_meet_below
decreases-is_meet_below l = 2 * (largest l.list.now + size-Ty l.b.now)

abbrev pub decreases-is_meet_below_all : goal.decreases-is_meet_below_all
decreases-is_meet_below_all l = 2 * (largest l.list.now + size-TyList l.all.now)

abbrev pub decreases-rests_after_call : goal.decreases-rests_after_call
decreases-rests_after_call l = 2 * (largest l.list.now + size-Ty l.argument.now) + 1

abbrev pub decreases-add_rests_after_call : goal.decreases-add_rests_after_call
decreases-add_rests_after_call l = 2 * (size-Ty l.ty.now + size-Ty l.argument.now)
