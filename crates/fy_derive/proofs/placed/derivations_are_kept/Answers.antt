use Rattle.fy_derive.proofs.PlacedLemmas.{placed-concludes}
use Rattle.fy_derive.proofs.PlacedSizes.{placed-small}
use Rattle.fy_derive.proofs.placed.derivations_are_kept.Goals as goal

pub returns-clause-concludes : goal.returns-clause-concludes
returns-clause-concludes c = placed-concludes

pub returns-clause-small : goal.returns-clause-small
returns-clause-small c = placed-small
