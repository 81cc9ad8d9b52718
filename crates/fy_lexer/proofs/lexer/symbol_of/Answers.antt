use Rattle.fy_lexer.specs.Spellings.{symbols}
use Rattle.fy_lexer.proofs.lexer.symbol_of.Goals as goal

pub returns : goal.returns
unfolding symbols
returns c = c.found.ensures
