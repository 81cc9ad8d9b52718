use Rattle.fy_lexer.proofs.AgainLemmas.{rests_read_again}
use Rattle.fy_lexer.proofs.laws.rests_are_read_again.Goals as goal

pub returns : goal.returns
returns c = rests_read_again
