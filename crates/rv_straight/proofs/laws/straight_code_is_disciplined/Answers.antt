use Rattle.rv_straight.proofs.Fine.{disciplined, faults_fine}
use Rattle.rv_straight.proofs.laws.straight_code_is_disciplined.Goals as goal

pub returns-clause-code : goal.returns-clause-code
returns-clause-code c = disciplined

pub returns-clause-faults : goal.returns-clause-faults
returns-clause-faults c = faults_fine
