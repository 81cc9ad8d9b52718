use Rattle.std.proofs.Common.{take}
use Rattle.std.specs.List.Sorted.{IsPermutation}
use Rattle.pe_shapes.specs.Placing.{AreNumbersInOrder}
use Rattle.pe_shapes.specs.Shown.{AreIn}
use Rattle.pe_shapes.proofs.order.in_order.Given as goal

abbrev pub invariant-loop-number : goal.invariant-loop-number
invariant-loop-number l = record {
  moved : IsPermutation (take l.number-index l.set) l.order.items;
  within : AreIn l.numbers l.order.items;
  ordered : AreNumbersInOrder l.numbers l.order.items;
}
