use Rattle.rv_operators.proofs.Unary.{unary_works}
use Rattle.rv_operators.proofs.laws.unary_operators_work.Goals as goal

pub returns : goal.returns
returns c = λ code first meet op e place entry outside v held h. unary_works code first meet held e place entry outside op v h
