use Rattle.fy_lexer.proofs.AgainLemmas.{later_names_change_nothing as unchanged}
use Rattle.fy_lexer.proofs.laws.later_names_change_nothing.Goals as goal

pub returns : goal.returns
returns c = unchanged
