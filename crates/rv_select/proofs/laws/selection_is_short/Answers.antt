use Rattle.rv_select.proofs.Short.{short}
use Rattle.rv_select.proofs.laws.selection_is_short.Goals as goal

pub returns : goal.returns
returns c = short
