use Rattle.pe_items.proofs.RunLemmas.{items_in_step}
use Rattle.pe_items.proofs.laws.items_go_in_step.Goals as goal

pub returns : goal.returns
returns c = items_in_step
