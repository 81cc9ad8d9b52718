use Rattle.std.proofs.Common.{◌≡◌, ◌++◌, take}
use Rattle.fy_elf.specs.Elf.{numbers_bytes}
use Rattle.fy_elf.proofs.write.put_numbers.Given as goal

abbrev pub invariant-loop-number : goal.invariant-loop-number
invariant-loop-number l = l.bytes.items ≡ l.initial.bytes.items ++ numbers_bytes (take l.number-index l.numbers)
