use Rattle.fy_reasons.proofs.ReasonLemmas.{reasons-forgotten}
use Rattle.fy_reasons.proofs.reasons.reasons_are_forgotten.Goals as goal

pub returns : goal.returns
returns c = reasons-forgotten
