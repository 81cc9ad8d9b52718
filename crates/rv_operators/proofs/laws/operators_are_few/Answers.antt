use Rattle.rv_operators.proofs.Discipline.{few}
use Rattle.rv_operators.proofs.laws.operators_are_few.Goals as goal

pub returns : goal.returns
returns c = few
