use Rattle.fy_causes.proofs.HollowLemmas.{second-so}
use Rattle.fy_causes.proofs.laws.second_causes_are_so.Goals as goal

pub returns : goal.returns
returns c = second-so
