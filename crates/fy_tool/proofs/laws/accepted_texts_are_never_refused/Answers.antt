use Rattle.fy_tool.proofs.Completing.{never_refused}
use Rattle.fy_tool.proofs.laws.accepted_texts_are_never_refused.Goals as goal

pub returns : goal.returns
returns c = never_refused
