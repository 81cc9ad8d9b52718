use Rattle.std.proofs.Common.{◌∙◌, sym}
use Rattle.fy_words.proofs.WordLemmas.{no_operand, one_operand}
use Rattle.fy_words.proofs.words.with_operand.Goals as goal

pub returns-then-is_option : goal.returns-then-is_option
returns-then-is_option c = no_operand c.args.found c.args.word.now (sym c.is_option.ensures ∙ c.if-is_option.true)

pub returns : goal.returns
returns c = λ texts are. one_operand c.and.result c.args.word.now texts (sym c.is_option.ensures ∙ c.if-is_option.false) (c.and.ensures texts are)
