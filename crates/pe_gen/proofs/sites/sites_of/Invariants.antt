use Rattle.std.proofs.Common.{map}
use Rattle.pe_gen.specs.Preorder.{seen}
use Rattle.pe_gen.proofs.SiteLists.{AreSitesTo}
use Rattle.pe_gen.proofs.sites.sites_of.Given as goal

abbrev pub invariant-loop-pair : goal.invariant-loop-pair
invariant-loop-pair l = AreSitesTo (map seen l.nodes) l.pairs l.fn.program l.pair-index l.sites.keys
