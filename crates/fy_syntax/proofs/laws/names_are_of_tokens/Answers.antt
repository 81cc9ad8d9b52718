use Rattle.fy_syntax.proofs.NameLemmas.{names_are_of_tokens as of_tokens}
use Rattle.fy_syntax.proofs.laws.names_are_of_tokens.Goals as goal

pub returns : goal.returns
returns c = of_tokens
