use Rattle.rv_insn.proofs.Reading.{step_at}
use Rattle.rv_insn.proofs.laws.steps_execute_words.Goals as goal

pub returns : goal.returns
returns c = step_at
