use Rattle.std.proofs.Common.{◌≡◌, take}
use Rattle.pe_gen.proofs.copying.copied_entries.Given as goal

abbrev pub invariant-loop-entry : goal.invariant-loop-entry
invariant-loop-entry l = l.made ≡ take l.entry-index l.entries
