use Rattle.rv_operators.proofs.Discipline.{held_there}
use Rattle.rv_operators.proofs.laws.operators_are_held.Goals as goal

pub returns : goal.returns
returns c = held_there
