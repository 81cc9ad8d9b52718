use Rattle.rv_insn.proofs.Reading.{trap_at}
use Rattle.rv_insn.proofs.laws.illegal_words_trap.Goals as goal

pub returns : goal.returns
returns c = trap_at
