use Rattle.fy_build.proofs.Agreeing as agreeing
use Rattle.fy_build.proofs.laws.images_agree.Goals as goal

pub returns : goal.returns
returns c = agreeing.images_agree
