use Rattle.rv_flow.proofs.Near.{disciplined_are_near}
use Rattle.rv_flow.proofs.lowering.disciplined_are_near.Goals as goal

pub returns : goal.returns
returns c = disciplined_are_near
