use Rattle.std.proofs.Common.{◌≡◌, map, take}
use Rattle.pe_shapes.specs.Placing.{placed}
use Rattle.pe_shapes.proofs.placing.placed_pairs.Given as goal

abbrev pub invariant-loop-pair : goal.invariant-loop-pair
invariant-loop-pair l = l.all.items ≡ map (placed l.places) (take l.pair-index l.pairs)
