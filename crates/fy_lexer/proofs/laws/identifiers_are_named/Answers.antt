use Rattle.fy_lexer.proofs.IdentifierLemmas.{identifiers_named}
use Rattle.fy_lexer.proofs.laws.identifiers_are_named.Goals as goal

pub returns : goal.returns
returns c = identifiers_named
