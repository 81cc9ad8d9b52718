use Rattle.fy_again.proofs.ProgramLemmas.{phrases_read}
use Rattle.fy_again.proofs.laws.phrases_are_read_again.Goals as goal

pub returns : goal.returns
returns c = phrases_read
