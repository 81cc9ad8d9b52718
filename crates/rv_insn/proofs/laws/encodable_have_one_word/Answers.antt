use Rattle.rv_insn.proofs.OneWord.{one_word}
use Rattle.rv_insn.proofs.SomeWord.{some_word}
use Rattle.rv_insn.proofs.laws.encodable_have_one_word.Goals as goal

pub returns : goal.returns
returns c = λ insn h. let q = some_word insn h in record { word = q.0; is = q.1; only = λ other k. one_word insn other q.0 k q.1 }
