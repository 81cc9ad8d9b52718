use Rattle.std.proofs.Common.{◌≡◌, ◌+◌, ◌*◌, ◌≤◌, length, drop}
use Rattle.rv_straight.specs.Straight.{fault_blocks}
use Rattle.rv_straight.proofs.faults.fault_count.Given as goal

abbrev pub invariant-loop-part : goal.invariant-loop-part
invariant-loop-part l = record {
  is : l.count + length (fault_blocks (drop l.part-index l.parts)) ≡ length (fault_blocks l.parts);
  few : l.count ≤ 2 * l.part-index;
}
