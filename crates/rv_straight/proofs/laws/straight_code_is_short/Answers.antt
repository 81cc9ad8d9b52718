use Rattle.rv_straight.proofs.Sizes.{short}
use Rattle.rv_straight.proofs.laws.straight_code_is_short.Goals as goal

pub returns : goal.returns
returns c = short
