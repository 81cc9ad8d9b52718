use Rattle.fy_expand.proofs.ClearLemmas.{phrases_mean_the_same as mean_the_same}
use Rattle.fy_expand.proofs.laws.phrases_mean_the_same.Goals as goal

pub returns : goal.returns
returns c = mean_the_same
