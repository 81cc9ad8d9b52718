use Rattle.std.proofs.lemmas.Result.{IfOk-weaker}
use Rattle.fy_derive.proofs.BelowLemmas.{test-same}
use Rattle.fy_derive.proofs.below.is_below.Goals as goal

pub returns : goal.returns
returns c = IfOk-weaker c.is_one_below.result _ _ (λ r h. test-same r _ _ h) c.is_one_below.ensures
