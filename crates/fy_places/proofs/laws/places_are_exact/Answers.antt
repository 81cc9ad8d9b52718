use Rattle.fy_places.proofs.Exact.{wrong_exact, left_exact, deep_exact}
use Rattle.fy_places.proofs.laws.places_are_exact.Goals as goal

pub returns-clause-wrong : goal.returns-clause-wrong
returns-clause-wrong c depth tokens rest bad e = wrong_exact depth tokens rest bad e

pub returns-clause-left : goal.returns-clause-left
returns-clause-left c depth tokens rest bad tree e no_end = left_exact depth tokens rest bad tree e no_end

pub returns-clause-deep : goal.returns-clause-deep
returns-clause-deep c depth tokens rest bad e = deep_exact depth tokens rest bad e
