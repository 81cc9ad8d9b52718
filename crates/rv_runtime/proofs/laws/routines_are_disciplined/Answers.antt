use Rattle.rv_runtime.proofs.Judged.{routines_are_disciplined}
use Rattle.rv_runtime.proofs.laws.routines_are_disciplined.Goals as goal

pub returns : goal.returns
returns c = routines_are_disciplined
