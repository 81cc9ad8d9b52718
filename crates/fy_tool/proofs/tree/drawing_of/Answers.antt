use Rattle.fy_tool.proofs.tree.drawing_of.Goals as goal

pub returns : goal.returns
returns c = cc
