use Rattle.std.proofs.Common.{refl}
use Rattle.fy_elf.specs.Refusals.{size_of}
use Rattle.fy_elf.proofs.Segments.{segment_taken}
use Rattle.fy_elf.proofs.read.segment.Goals as goal

pub returns-clause-taken : goal.returns-clause-taken
returns-clause-taken c =
    segment_taken c.args.segment.now (size_of c.args.counted.now c.in_ok-count.count) _ _ _ _ _ _ c.segment_start.ensures refl c.in_ok-exacts.ensures.taken c.in_ok-count.ensures.taken c.in_ok-exacts-2.ensures.taken
