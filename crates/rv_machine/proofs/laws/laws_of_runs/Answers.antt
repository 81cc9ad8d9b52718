use Rattle.rv_machine.proofs.Runs.{run_more, run_split, outputs_grow, run_stays}
use Rattle.rv_machine.proofs.laws.laws_of_runs.Goals as goal

pub returns : goal.returns
returns c = record { one = run_more; more = run_split; grows = outputs_grow; stays = run_stays }
