use Rattle.fy_syntax.proofs.Unique.{unambiguous}
use Rattle.fy_syntax.proofs.laws.grammar_is_unambiguous.Goals as goal

pub returns : goal.returns
returns c = unambiguous
