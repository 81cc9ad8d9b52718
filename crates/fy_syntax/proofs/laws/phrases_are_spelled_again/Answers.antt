use Rattle.fy_syntax.proofs.PlaceLemmas.{phrases_spelled_again}
use Rattle.fy_syntax.proofs.laws.phrases_are_spelled_again.Goals as goal

pub returns : goal.returns
returns c = phrases_spelled_again
