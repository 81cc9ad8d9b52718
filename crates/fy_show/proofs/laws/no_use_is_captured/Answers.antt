use Rattle.fy_show.proofs.BoundLemmas.{none-captured}
use Rattle.fy_show.proofs.laws.no_use_is_captured.Goals as goal

pub returns : goal.returns
returns c = none-captured
