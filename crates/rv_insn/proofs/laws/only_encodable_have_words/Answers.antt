use Rattle.rv_insn.proofs.OnlyEncodable.{only_encodable}
use Rattle.rv_insn.proofs.laws.only_encodable_have_words.Goals as goal

pub returns : goal.returns
returns c = only_encodable
