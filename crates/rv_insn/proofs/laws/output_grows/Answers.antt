use Rattle.rv_insn.proofs.Runs.{output_grows}
use Rattle.rv_insn.proofs.laws.output_grows.Goals as goal

pub returns : goal.returns
returns c = output_grows
