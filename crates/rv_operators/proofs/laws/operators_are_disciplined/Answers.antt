use Rattle.rv_operators.proofs.Discipline.{disciplined}
use Rattle.rv_operators.proofs.laws.operators_are_disciplined.Goals as goal

pub returns : goal.returns
returns c = disciplined
