use Rattle.std.proofs.Common.{◌≡◌, ◌<◌, [], length, drop}
use Rattle.std.specs.Prelude.{slice_index_or}
use Rattle.rv_straight.specs.Straight.{fault_blocks}
use Rattle.rv_straight.proofs.faults.add_fault_block.Given as goal

-- the fault is one of those that are left
abbrev pub invariant-loop-part : goal.invariant-loop-part
invariant-loop-part l = record {
  inside : l.left < length (fault_blocks (drop l.part-index l.parts));
  is : slice_index_or (fault_blocks (drop l.part-index l.parts)) l.left [] ≡ slice_index_or (fault_blocks l.parts) l.number [];
  same : l.block.items ≡ l.fn.block.items;
}
