use Rattle.fy_linux.proofs.Running.{after_both}
use Rattle.fy_linux.proofs.laws.processes_split.Goals as goal

pub returns : goal.returns
returns c = after_both
