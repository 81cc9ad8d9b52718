use Rattle.std.proofs.Common.{take}
use Rattle.std.specs.List.{All}
use Rattle.pe_code.specs.Valid.{LeadsTo}
use Rattle.pe_code.proofs.valid.all_lead.Given as goal

abbrev pub invariant-loop-address : goal.invariant-loop-address
invariant-loop-address l = All (LeadsTo l.code l.depth) (take l.address-index l.addresses)
