use Rattle.std.proofs.Common.{◌≡◌, ◌<◌}
use Rattle.fy_derive.specs.ShapeTables.{behind}
use Rattle.pe_shapes.specs.Shown.{shown, total}
use Rattle.pe_shapes.proofs.numbers.ShapeNumbers.shape.Given as goal

abbrev pub invariant-demands : goal.invariant-demands
invariant-demands l = record {
  within : l.rest < total l.self;
  stands : behind l.elems (shown l.self l.rest) ≡ shown l.self l.fn.number;
}

abbrev pub decreases-demands : goal.decreases-demands
decreases-demands l = l.rest
