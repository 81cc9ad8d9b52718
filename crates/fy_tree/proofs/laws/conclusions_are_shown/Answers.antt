use Rattle.fy_tree.proofs.ShownLemmas.{shows-judging}
use Rattle.fy_tree.proofs.laws.conclusions_are_shown.Goals as goal

pub returns : goal.returns
returns c = λ k d n G s added p A e. shows-judging k d n G s added p A e
