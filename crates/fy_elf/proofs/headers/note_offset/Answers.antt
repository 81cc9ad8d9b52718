use Rattle.std.proofs.Common.{arith}
use Rattle.fy_elf.proofs.Unique.{offset_small}
use Rattle.fy_elf.proofs.headers.note_offset.Goals as goal

pub overflow_add-result : goal.overflow_add-result
overflow_add-result c = omega (arith, c.table_offset.ensures, offset_small c.args.code_words)
