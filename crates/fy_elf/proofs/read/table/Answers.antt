use Rattle.std.proofs.Common.{◌*◌, ◌<◌, sym, subst, arith}
use Rattle.fy_elf.specs.Elf.{table_segment}
use Rattle.fy_elf.specs.Refusals.{table_counted}
use Rattle.fy_elf.specs.declared.counted.Counted.{Counted}
use Rattle.fy_elf.proofs.Segments.{taken_is, range_is, table_size}
use Rattle.fy_elf.proofs.read.table.Goals as goal

pub segment-requires : goal.segment-requires
unfolding table_counted
segment-requires c = let P : Counted → Type 0 = λ k. 0 < k.unit in subst P (sym c.table_counted.ensures) (omega arith)

pub returns-clause-taken : goal.returns-clause-taken
returns-clause-taken c = taken_is c.segment.result _ (table_segment c.args.code_words) _ table_counted (λ n. 8 * n) _ _ c.table_segment.ensures c.table_counted.ensures table_size c.segment.ensures.taken

pub returns-clause-range : goal.returns-clause-range
unfolding table_counted
returns-clause-range c = range_is c.segment.result _ table_counted c.table_counted.ensures c.segment.ensures.range
