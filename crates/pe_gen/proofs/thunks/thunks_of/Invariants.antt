use Rattle.std.proofs.Common.{◌≡◌, map, take}
use Rattle.pe_gen.specs.Preorder.{seen, thunks_from}
use Rattle.pe_gen.proofs.thunks.thunks_of.Given as goal

abbrev pub invariant-loop-number : goal.invariant-loop-number
invariant-loop-number l = l.thunks ≡ thunks_from 0 (take l.number (map seen l.nodes))
