use Rattle.fy_elf.proofs.Loading.{loads_as_read}
use Rattle.fy_elf.proofs.Unique.{reads_only}
use Rattle.fy_elf.proofs.read.read_elf.Goals as goal

pub returns-clause-only : goal.returns-clause-only
returns-clause-only c = λ image is. reads_only c.read.result c.args.bytes.now c.read.ensures.found c.read.ensures.judged image is

pub returns-clause-loads : goal.returns-clause-loads
returns-clause-loads c = loads_as_read c.read.result c.args.bytes.now c.read.ensures.found
