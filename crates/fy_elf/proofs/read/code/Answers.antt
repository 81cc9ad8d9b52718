use Rattle.std.proofs.Common.{◌*◌, ◌<◌, sym, subst, arith}
use Rattle.fy_elf.specs.Elf.{code_segment}
use Rattle.fy_elf.specs.Refusals.{code_counted}
use Rattle.fy_elf.specs.declared.counted.Counted.{Counted}
use Rattle.fy_elf.proofs.Segments.{taken_is, range_is, code_size}
use Rattle.fy_elf.proofs.read.code.Goals as goal

pub segment-requires : goal.segment-requires
unfolding code_counted
segment-requires c = let P : Counted → Type 0 = λ k. 0 < k.unit in subst P (sym c.code_counted.ensures) (omega arith)

pub returns-clause-taken : goal.returns-clause-taken
returns-clause-taken c = taken_is c.segment.result _ code_segment _ code_counted (λ n. 4 * n) _ _ c.code_segment.ensures c.code_counted.ensures code_size c.segment.ensures.taken

pub returns-clause-range : goal.returns-clause-range
unfolding code_counted
returns-clause-range c = range_is c.segment.result _ code_counted c.code_counted.ensures c.segment.ensures.range
