use Rattle.std.proofs.Common.{◌∙◌, sym}
use Rattle.fy_words.proofs.WordLemmas.{known_option, known_operand}
use Rattle.fy_words.proofs.words.is_known.Goals as goal

pub returns-then-is_option : goal.returns-then-is_option
returns-then-is_option c = c.has_key.ensures ∙ known_option c.args.word.now _ (sym c.is_option.ensures ∙ c.if-is_option.true)

pub returns : goal.returns
returns c = known_operand c.args.word.now _ (sym c.is_option.ensures ∙ c.if-is_option.false)
