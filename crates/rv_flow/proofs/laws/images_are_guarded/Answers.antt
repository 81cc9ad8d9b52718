use Rattle.rv_flow.proofs.Guarded.{images_are_guarded}
use Rattle.rv_flow.proofs.laws.images_are_guarded.Goals as goal

pub returns : goal.returns
returns c = images_are_guarded
