use Rattle.std.proofs.Common.{◌≡◌, ◌++◌, drop}
use Rattle.rv_asm.specs.Planning.{labelled}
use Rattle.rv_asm.proofs.assembler.placed_labels.Given as goal

abbrev pub invariant-loop-k : goal.invariant-loop-k
invariant-loop-k l = l.list ++ labelled (drop l.k l.labels) (drop l.k l.places) ≡ labelled l.labels l.places
