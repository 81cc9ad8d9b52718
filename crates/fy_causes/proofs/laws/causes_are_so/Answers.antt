use Rattle.fy_causes.proofs.CauseLemmas.{causes-so}
use Rattle.fy_causes.proofs.laws.causes_are_so.Goals as goal

pub returns : goal.returns
returns c = causes-so
