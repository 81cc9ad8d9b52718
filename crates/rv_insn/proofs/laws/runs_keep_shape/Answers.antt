use Rattle.rv_insn.proofs.Shape.{run_keeps}
use Rattle.rv_insn.proofs.laws.runs_keep_shape.Goals as goal

pub returns : goal.returns
returns c = run_keeps
