use Rattle.fy_reasons.proofs.AdviceLemmas.{advice-taken}
use Rattle.fy_reasons.proofs.expected.advice_is_taken.Goals as goal

pub returns : goal.returns
returns c = advice-taken
