use Rattle.std.proofs.Common.{◌≤◌, take}
use Rattle.fy_types.specs.Paths.{pick, no_paths}
use Rattle.fy_types.specs.Rests.{listed, largest, Adds}
use Rattle.fy_types.proofs.below.rests_after_field.Given as goal

abbrev pub invariant-loop-ty : goal.invariant-loop-ty
invariant-loop-ty l = record {
  rests : Adds (pick l.name) no_paths (listed l.made.items) (listed (take l.ty-index l.list));
  size : largest l.made.items ≤ largest l.list;
}
