use Rattle.rv_flow.proofs.Short.{code_is_short}
use Rattle.rv_flow.proofs.laws.code_is_short.Goals as goal

pub returns : goal.returns
returns c = code_is_short
