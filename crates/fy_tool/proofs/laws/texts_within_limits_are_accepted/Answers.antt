use Rattle.fy_tool.proofs.Completing.{accepted_where}
use Rattle.fy_tool.proofs.laws.texts_within_limits_are_accepted.Goals as goal

pub returns : goal.returns
returns c = accepted_where
