use Rattle.std.proofs.Common.{sym}
use Rattle.fy_elf.proofs.Unique.{padding_even, padding_odd}
use Rattle.fy_elf.proofs.headers.padding.Goals as goal

pub returns-then-code_words-eq0 : goal.returns-then-code_words-eq0
returns-then-code_words-eq0 c = sym (padding_even c.args.code_words c.if-code_words-eq0.true)

pub returns-else-code_words-eq0 : goal.returns-else-code_words-eq0
returns-else-code_words-eq0 c = sym (padding_odd c.args.code_words c.if-code_words-eq0.false)
