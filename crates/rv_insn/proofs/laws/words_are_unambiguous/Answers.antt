use Rattle.rv_insn.proofs.OneInstruction.{unique}
use Rattle.rv_insn.proofs.laws.words_are_unambiguous.Goals as goal

pub returns : goal.returns
returns c = unique
