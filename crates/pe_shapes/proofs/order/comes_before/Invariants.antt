use Rattle.std.proofs.Common.{◌≡◌, ◌<◌}
use Rattle.pe_shapes.specs.Order.{comes_before}
use Rattle.pe_shapes.specs.Shown.{shown, total}
use Rattle.pe_shapes.proofs.order.comes_before.Given as goal

abbrev pub invariant-demands : goal.invariant-demands
invariant-demands l = record {
  left : l.left < total l.numbers;
  right : l.right < total l.numbers;
  same : comes_before (shown l.numbers l.left) (shown l.numbers l.right) ≡ comes_before (shown l.numbers l.fn.one) (shown l.numbers l.fn.other);
}

abbrev pub decreases-demands : goal.decreases-demands
decreases-demands l = l.left
