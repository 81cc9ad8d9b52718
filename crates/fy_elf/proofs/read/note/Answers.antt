use Rattle.std.proofs.Common.{◌+◌, ◌*◌, ◌<◌, sym, subst, arith}
use Rattle.fy_elf.specs.Elf.{note_segment}
use Rattle.fy_elf.specs.Refusals.{places_counted}
use Rattle.fy_elf.specs.declared.counted.Counted.{Counted}
use Rattle.fy_elf.proofs.Segments.{taken_is, range_is, places_size}
use Rattle.fy_elf.proofs.read.note.Goals as goal

pub segment-requires : goal.segment-requires
unfolding places_counted
segment-requires c = let P : Counted → Type 0 = λ k. 0 < k.unit in subst P (sym c.places_counted.ensures) (omega arith)

pub returns-clause-taken : goal.returns-clause-taken
returns-clause-taken c = taken_is c.segment.result _ (note_segment c.args.code_words c.args.table_words) _ places_counted (λ n. 16 + 8 * n) _ _ c.note_segment.ensures c.places_counted.ensures places_size c.segment.ensures.taken

pub returns-clause-range : goal.returns-clause-range
unfolding places_counted
returns-clause-range c = range_is c.segment.result _ places_counted c.places_counted.ensures c.segment.ensures.range
