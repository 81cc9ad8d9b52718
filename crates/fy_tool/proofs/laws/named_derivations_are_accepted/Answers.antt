use Rattle.fy_tool.proofs.Named.{named_accepted}
use Rattle.fy_tool.proofs.laws.named_derivations_are_accepted.Goals as goal

pub returns : goal.returns
returns c = named_accepted
