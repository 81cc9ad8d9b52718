use Rattle.fy_image.proofs.Unique.{reads_only}
use Rattle.fy_image.proofs.read.read_image.Goals as goal

pub returns-clause-only : goal.returns-clause-only
returns-clause-only c = λ image is. reads_only c.read.result c.args.bytes.now c.read.ensures.found c.read.ensures.judged image is
