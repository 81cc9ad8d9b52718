use Rattle.fy_least.proofs.ShapeLemmas.{shapes-least}
use Rattle.fy_least.proofs.laws.shapes_are_least.Goals as goal

pub returns : goal.returns
returns c = record { contained = shapes-least }
