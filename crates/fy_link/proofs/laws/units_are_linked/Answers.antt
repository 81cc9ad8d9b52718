use Rattle.fy_link.proofs.LinkLemmas.{units_linked}
use Rattle.fy_link.proofs.laws.units_are_linked.Goals as goal

pub returns : goal.returns
returns c = units_linked
