use Rattle.fy_tool.proofs.Completing.{run_completes}
use Rattle.fy_tool.proofs.laws.runs_complete.Goals as goal

pub returns : goal.returns
returns c = run_completes
