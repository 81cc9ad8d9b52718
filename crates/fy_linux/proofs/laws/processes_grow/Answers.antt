use Rattle.fy_linux.proofs.Running.{grows}
use Rattle.fy_linux.proofs.laws.processes_grow.Goals as goal

pub returns : goal.returns
returns c = grows
