use Rattle.rv_flow.proofs.Runs.{images_reach}
use Rattle.rv_flow.proofs.laws.images_reach.Goals as goal

pub returns : goal.returns
returns c = images_reach
