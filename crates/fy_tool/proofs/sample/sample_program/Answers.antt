use Rattle.std.proofs.Common.{inr, refl}
use Rattle.fy_world.proofs.Counting.{called_same}
use Rattle.fy_tool.proofs.sample.sample_program.Goals as goal

pub returns-clause-samples : goal.returns-clause-samples
returns-clause-samples g c = inr (record { image = c.in-Ok.image; is = c.in-Ok.ensures.image; samples = c.keep_and_sample.ensures.samples })

pub returns-in-Err-clause-called : goal.returns-in-Err-clause-called
returns-in-Err-clause-called g c = called_same 0 1 _ _ refl
