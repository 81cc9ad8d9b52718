use Rattle.fy_show.proofs.PartLemmas.{short-short}
use Rattle.fy_show.proofs.laws.short_texts_are_short.Goals as goal

pub returns : goal.returns
returns c = short-short
