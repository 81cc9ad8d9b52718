use Rattle.std.proofs.Common.{inr, refl}
use Rattle.fy_world.proofs.Counting.{called_same}
use Rattle.fy_tool.proofs.run.run_program.Goals as goal

pub returns-clause-runs : goal.returns-clause-runs
returns-clause-runs g c = inr (record { image = c.in-Ok.image; is = c.in-Ok.ensures.image; runs = c.keep_and_run.ensures.runs })

pub returns-in-Err-clause-called : goal.returns-in-Err-clause-called
returns-in-Err-clause-called g c = called_same 0 1 _ _ refl
