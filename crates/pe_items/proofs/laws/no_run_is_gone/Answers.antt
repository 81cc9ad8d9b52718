use Rattle.pe_items.proofs.ItemRuns.{none_gone}
use Rattle.pe_items.proofs.laws.no_run_is_gone.Goals as goal

pub returns : goal.returns
returns c = none_gone
