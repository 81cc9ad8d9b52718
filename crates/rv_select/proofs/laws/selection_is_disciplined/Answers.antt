use Rattle.rv_select.proofs.Disciplined.{disciplined}
use Rattle.rv_select.proofs.laws.selection_is_disciplined.Goals as goal

pub returns : goal.returns
returns c = disciplined c.routines_are_disciplined.ensures c.operators_are_disciplined.ensures
