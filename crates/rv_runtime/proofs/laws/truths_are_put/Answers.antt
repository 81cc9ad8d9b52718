use Rattle.rv_runtime.proofs.Truths.{truths_are_put}
use Rattle.rv_runtime.proofs.laws.truths_are_put.Goals as goal

pub returns : goal.returns
returns c = truths_are_put
