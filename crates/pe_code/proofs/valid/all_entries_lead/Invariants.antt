use Rattle.std.proofs.Common.{take}
use Rattle.std.specs.List.{All}
use Rattle.pe_code.specs.Valid.{LeadsTo}
use Rattle.pe_code.proofs.valid.all_entries_lead.Given as goal

abbrev pub invariant-loop-entry : goal.invariant-loop-entry
invariant-loop-entry l = All (λ e. LeadsTo l.code l.depth e.address) (take l.entry-index l.entries)
