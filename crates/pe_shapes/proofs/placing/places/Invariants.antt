use Rattle.std.proofs.Common.{take}
use Rattle.pe_shapes.specs.Placing.{ArePlaces}
use Rattle.pe_shapes.proofs.placing.places.Given as goal

abbrev pub invariant-loop-number : goal.invariant-loop-number
invariant-loop-number l = ArePlaces (take l.number-index l.used) l.order l.all.items
