use Rattle.std.proofs.Common.{refl}
use Rattle.fy_world.proofs.Counting.{called_same, called_behind}
use Rattle.fy_world.proofs.Sampling.{sampled_kept, sampled_unkept}
use Rattle.fy_world.proofs.images.keep_and_sample.Goals as goal

pub returns-in-Ok-keep_image-clause-samples : goal.returns-in-Ok-keep_image-clause-samples
returns-in-Ok-keep_image-clause-samples g c =
    sampled_kept c.args.image.now c.in-Ok.machine.program c.in-Ok.machine.core c.args.steps c.args.name.now _ (g.W.World.holds c.keep_image.new.world) _ c.in-Ok-keep_image.field-0 c.run_sampled.result c.in-Ok.ensures.program c.in-Ok.ensures.start c.in-Ok-keep_image.ensures.keeps
    c.run_sampled.ensures.run c.run_sampled.ensures.memory

pub returns-clause-samples : goal.returns-clause-samples
returns-clause-samples g c = sampled_unkept c.args.image.now c.in-Ok.machine.program c.args.steps c.args.name.now _ _ c.in-Err-keep_image.stop c.in-Ok.ensures.program c.in-Err-keep_image.ensures.keeps

pub returns-in-Ok-keep_image-clause-called : goal.returns-in-Ok-keep_image-clause-called
returns-in-Ok-keep_image-clause-called g c = called_behind 0 1 _ _ _ c.in-Ok-keep_image.ensures.called c.run_sampled.ensures.called

pub returns-in-Err-clause-called : goal.returns-in-Err-clause-called
returns-in-Err-clause-called g c = called_same 0 1 _ _ refl
