use Rattle.fy_tool.proofs.Serving.{serves_nothing}
use Rattle.fy_tool.proofs.run.run_file.Goals as goal

pub returns-in-Err-clause-serves : goal.returns-in-Err-clause-serves
returns-in-Err-clause-serves g c = serves_nothing _ _ _ _ c.in-Err.stop c.in-Err.ensures.memory
