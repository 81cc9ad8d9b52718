use Rattle.fy_show.proofs.NameLemmas.{uses-names}
use Rattle.fy_show.proofs.laws.uses_are_names.Goals as goal

pub returns : goal.returns
returns c = uses-names
