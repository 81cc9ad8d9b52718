use Rattle.rv_insn.proofs.Runs.{ended_stays}
use Rattle.rv_insn.proofs.laws.ended_runs_stay.Goals as goal

pub returns : goal.returns
returns c = ended_stays
