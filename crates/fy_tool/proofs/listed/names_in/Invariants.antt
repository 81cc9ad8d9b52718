use Rattle.fy_tool.proofs.Lists.{TextsSoFar}
use Rattle.fy_tool.proofs.listed.names_in.Given as goal

abbrev pub invariant-loop-line : goal.invariant-loop-line
invariant-loop-line l = TextsSoFar l.lines l.line-index l.names
