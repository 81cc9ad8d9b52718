use Rattle.rv_straight.proofs.Works.{works}
use Rattle.rv_straight.proofs.laws.straight_code_works.Goals as goal

pub returns : goal.returns
returns c = works
