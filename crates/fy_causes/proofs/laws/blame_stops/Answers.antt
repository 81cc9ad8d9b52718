use Rattle.fy_causes.proofs.BlameLemmas.{stuck}
use Rattle.fy_causes.proofs.laws.blame_stops.Goals as goal

pub returns : goal.returns
returns c = stuck
