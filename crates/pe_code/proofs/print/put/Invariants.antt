use Rattle.std.proofs.Common.{◌≡◌, ◌++◌, take}
use Rattle.pe_code.proofs.print.put.Given as goal

abbrev pub invariant-loop-byte : goal.invariant-loop-byte
invariant-loop-byte l = l.text ≡ l.initial.text ++ take l.byte-index l.bytes
