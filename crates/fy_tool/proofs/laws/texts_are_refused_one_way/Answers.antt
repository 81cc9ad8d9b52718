use Rattle.fy_tool.proofs.Completing.{refused_one_way}
use Rattle.fy_tool.proofs.laws.texts_are_refused_one_way.Goals as goal

pub returns : goal.returns
returns c = refused_one_way
