use Rattle.rv_flow.proofs.Assembled.{code_can_be_assembled}
use Rattle.rv_flow.proofs.laws.code_can_be_assembled.Goals as goal

pub returns : goal.returns
returns c = code_can_be_assembled
