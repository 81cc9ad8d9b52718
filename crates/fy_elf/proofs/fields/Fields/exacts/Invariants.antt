use Rattle.std.proofs.Common.{take}
use Rattle.fy_elf.specs.Elf.{numbers_bytes}
use Rattle.fy_elf.specs.Reading.{IsTaken}
use Rattle.fy_elf.proofs.fields.Fields.exacts.Given as goal

abbrev pub invariant-loop-number : goal.invariant-loop-number
invariant-loop-number l = IsTaken (numbers_bytes (take l.number-index l.numbers)) l.initial.self l.self
