use Rattle.rv_operators.proofs.Binary.{binary_works}
use Rattle.rv_operators.proofs.laws.binary_operators_work.Goals as goal

pub returns : goal.returns
returns c = λ code first meet op e place entry outside u v held two. binary_works code first meet held e place entry outside op u v two
