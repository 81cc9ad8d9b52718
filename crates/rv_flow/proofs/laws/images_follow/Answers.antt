use Rattle.rv_flow.proofs.Runs.{images_follow}
use Rattle.rv_flow.proofs.laws.images_follow.Goals as goal

pub returns : goal.returns
returns c = images_follow
