use Rattle.std.proofs.Common.{inl, inr, refl}
use Rattle.fy_world.proofs.Keeping.{unbegun}
use Rattle.fy_world.proofs.Counting.{called_same}
use Rattle.fy_tool.proofs.build.build_program.Goals as goal

pub returns-clause-builds : goal.returns-clause-builds
returns-clause-builds g c = inr (record { image = c.in-Ok.image; is = c.in-Ok.ensures.image; keeps = c.keep_image.ensures.keeps })

pub returns-in-Err-clause-builds : goal.returns-in-Err-clause-builds
returns-in-Err-clause-builds g c = inl (unbegun _ _ c.in-Err.stop c.in-Err.ensures.memory refl)

pub returns-in-Err-clause-called : goal.returns-in-Err-clause-called
returns-in-Err-clause-called g c = called_same 0 1 _ _ refl
