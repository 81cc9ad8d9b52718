use Rattle.std.proofs.Common.{◌≡◌, take}
use Rattle.pe_gen.proofs.copying.copied_nodes.Given as goal

abbrev pub invariant-loop-node : goal.invariant-loop-node
invariant-loop-node l = l.made ≡ take l.node-index l.nodes
