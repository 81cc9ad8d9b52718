use Rattle.rv_runtime.proofs.Ints.{ints_are_put}
use Rattle.rv_runtime.proofs.laws.ints_are_put.Goals as goal

pub returns : goal.returns
returns c = ints_are_put
