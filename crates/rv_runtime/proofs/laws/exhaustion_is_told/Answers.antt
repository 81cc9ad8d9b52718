use Rattle.rv_runtime.proofs.Judged.{exhaustion_is_told}
use Rattle.rv_runtime.proofs.laws.exhaustion_is_told.Goals as goal

pub returns : goal.returns
returns c = exhaustion_is_told
