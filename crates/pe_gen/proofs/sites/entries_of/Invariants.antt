use Rattle.std.proofs.Common.{map}
use Rattle.pe_gen.specs.Preorder.{seen}
use Rattle.pe_gen.proofs.EntryLists.{AreEntriesTo}
use Rattle.pe_gen.proofs.sites.entries_of.Given as goal

abbrev pub invariant-loop-i : goal.invariant-loop-i
invariant-loop-i l = AreEntriesTo (map seen l.nodes) l.shapes l.pairs l.sites.keys l.i l.entries
