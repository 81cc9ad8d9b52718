use Rattle.std.proofs.Common.{◌≡◌, map, take}
use Rattle.fy_derive.specs.ShapeTables.{plain_shape}
use Rattle.pe_shapes.specs.Shown.{all_shown}
use Rattle.pe_shapes.proofs.found.Found.shapes.Given as goal

abbrev pub invariant-loop-number : goal.invariant-loop-number
invariant-loop-number l = map plain_shape l.shapes ≡ all_shown l.self.numbers (take l.number-index l.order)
