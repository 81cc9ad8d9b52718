use Rattle.std.proofs.Common.{sym, subst}
use Rattle.rv_asm.proofs.Encodable.{AreEncodable, word_encodable, double_encodable}
use Rattle.rv_asm.proofs.forms.push_constant.Goals as goal

pub push_words-requires-then-has_32_bits : goal.push_words-requires-then-has_32_bits
push_words-requires-then-has_32_bits c = subst AreEncodable (sym c.word.ensures) (word_encodable c.args.rd _ c.requires)

pub push_words-requires-else-has_32_bits : goal.push_words-requires-else-has_32_bits
push_words-requires-else-has_32_bits c = subst AreEncodable (sym c.double.ensures) (double_encodable c.args.rd _ c.requires)
