use Rattle.std.proofs.Common.{refl}
use Rattle.fy_elf.specs.declared.error.ElfError.TheVariants.{TooLarge}
use Rattle.fy_tool.proofs.ElfCommands.{elf_too_long}
use Rattle.fy_tool.proofs.elf.elf_in.Goals as goal

pub returns-in_default-clause-read : goal.returns-in_default-clause-read
returns-in_default-clause-read g c =
    let long = rw c.in_default.is at c.in_ok-bytes.ensures.content in
    (long.content, long.told, (TooLarge, elf_too_long long.content long.longer, refl))
