use Rattle.fy_lexer.specs.Spellings.{keywords}
use Rattle.fy_lexer.proofs.lexer.keyword_of.Goals as goal

pub returns : goal.returns
unfolding keywords
returns c = c.found.ensures
