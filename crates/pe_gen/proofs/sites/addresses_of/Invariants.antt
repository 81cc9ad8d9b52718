use Rattle.std.proofs.Common.{map}
use Rattle.pe_gen.specs.Preorder.{seen}
use Rattle.pe_gen.specs.Sites.{AreAddressesFrom}
use Rattle.pe_gen.proofs.sites.addresses_of.Given as goal

abbrev pub invariant-loop-i : goal.invariant-loop-i
invariant-loop-i l = AreAddressesFrom (map seen l.nodes) l.shapes l.pairs l.sites.keys l.i l.addresses.items
