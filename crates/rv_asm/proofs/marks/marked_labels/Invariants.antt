use Rattle.std.proofs.Common.{◌≡◌, take}
use Rattle.rv_asm.specs.Items.{marks_of}
use Rattle.rv_asm.proofs.Refusals.{DistinctTo}
use Rattle.rv_asm.proofs.marks.marked_labels.Given as goal

abbrev pub invariant-loop-item : goal.invariant-loop-item
invariant-loop-item l = record {
  keys : l.labels.keys ≡ marks_of (take l.item-index l.items);
  distinct : DistinctTo l.items l.item-index;
}
