use Rattle.rv_insn.proofs.Runs.{run_splits}
use Rattle.rv_insn.proofs.laws.runs_split.Goals as goal

pub returns : goal.returns
returns c = run_splits
