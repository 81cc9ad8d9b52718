use Rattle.std.proofs.Common.{◌≡◌, ◌++◌, take}
use Rattle.std.specs.List.{flat_map}
use Rattle.pe_code.specs.Print.{then_part}
use Rattle.pe_code.proofs.print.put_parts.Given as goal

abbrev pub invariant-loop-part : goal.invariant-loop-part
invariant-loop-part l = l.text ≡ l.initial.text ++ flat_map then_part (take l.part-index l.parts)
