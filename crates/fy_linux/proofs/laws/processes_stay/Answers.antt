use Rattle.fy_linux.proofs.Running.{stays}
use Rattle.fy_linux.proofs.laws.processes_stay.Goals as goal

pub returns : goal.returns
returns c = stays
