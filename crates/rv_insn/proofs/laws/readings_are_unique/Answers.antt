use Rattle.rv_insn.proofs.Reading.{readings_are_unique}
use Rattle.rv_insn.proofs.laws.readings_are_unique.Goals as goal

pub returns : goal.returns
returns c = readings_are_unique
