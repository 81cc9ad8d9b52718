use Rattle.std.proofs.Common.{◌≤◌, max}
use Rattle.fy_types.specs.declared.types.Ty.{size-Ty}
use Rattle.fy_types.specs.Paths.{pick}
use Rattle.fy_types.specs.Rests.{listed, largest, Adds}
use Rattle.fy_types.proofs.Making.{first_paths}
use Rattle.fy_types.proofs.below.+add_rests_after_field.Given as goal

abbrev pub invariant-loop-part : goal.invariant-loop-part
invariant-loop-part l = record {
  rests : Adds (pick l.name) (listed l.initial.made.items) (listed l.made.items) (first_paths l.part-index l.part-items);
  size : largest l.made.items ≤ max (largest l.initial.made.items) (size-Ty l.ty);
}
