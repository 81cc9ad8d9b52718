use Rattle.rv_runtime.proofs.Judged.{faults_are_told}
use Rattle.rv_runtime.proofs.laws.faults_are_told.Goals as goal

pub returns : goal.returns
returns c = faults_are_told
