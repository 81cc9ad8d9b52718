use Rattle.rv_runtime.proofs.Judged.{routines_are_uniform}
use Rattle.rv_runtime.proofs.laws.routines_are_uniform.Goals as goal

pub returns : goal.returns
returns c = routines_are_uniform
