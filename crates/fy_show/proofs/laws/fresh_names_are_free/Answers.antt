use Rattle.fy_show.proofs.FreshLemmas.{fresh-free}
use Rattle.fy_show.proofs.laws.fresh_names_are_free.Goals as goal

pub returns : goal.returns
returns c = fresh-free
