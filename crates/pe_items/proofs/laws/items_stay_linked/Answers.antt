use Rattle.pe_items.proofs.ItemRuns.{stay_linked}
use Rattle.pe_items.proofs.laws.items_stay_linked.Goals as goal

pub returns : goal.returns
returns c = stay_linked
