use Rattle.rv_word.proofs.Right.{never_wrong}
use Rattle.rv_word.proofs.laws.disciplined_is_never_wrong.Goals as goal

pub returns : goal.returns
returns c = never_wrong
