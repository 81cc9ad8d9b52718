use Rattle.rv_runtime.proofs.Judged.{routines_are_few}
use Rattle.rv_runtime.proofs.laws.routines_are_few.Goals as goal

pub returns : goal.returns
returns c = routines_are_few
