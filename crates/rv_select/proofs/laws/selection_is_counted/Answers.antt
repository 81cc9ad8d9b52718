use Rattle.rv_select.proofs.ItemCounts.{counted}
use Rattle.rv_select.proofs.laws.selection_is_counted.Goals as goal

pub returns : goal.returns
returns c = counted
