use Rattle.rv_select.proofs.Images as images
use Rattle.rv_select.proofs.laws.selections_follow.Goals as goal

pub returns : goal.returns
returns c = images.selections_follow c.runs_reach.ensures c.runs_follow.ensures
