use Rattle.fy_build.proofs.SelectedLemmas.{can_be_assembled}
use Rattle.fy_build.proofs.laws.selections_can_be_assembled.Goals as goal

pub returns : goal.returns
returns c = can_be_assembled c.selection_is_disciplined.ensures c.selection_is_short.ensures c.selection_is_counted.ensures c.code_can_be_assembled.ensures
