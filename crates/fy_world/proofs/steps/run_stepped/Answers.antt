use Rattle.std.proofs.Common.{inr}
use Rattle.fy_world.proofs.StepRuns.{stepped_part, stepped_told, stepped_untold}
use Rattle.fy_world.proofs.steps.run_stepped.Goals as goal

pub returns-in-Err-make_steps-clause-run : goal.returns-in-Err-make_steps-clause-run
returns-in-Err-make_steps-clause-run g c =
    inr (stepped_part c.args.code.now c.args.names.now c.args.steps _ (g.W.World.holds c.make_steps.new.world) c.in-Err-make_steps.stop c.requires.lost c.in-Err-make_steps.ensures.stopped)

pub returns-in-Ok-tell_status-clause-run : goal.returns-in-Ok-tell_status-clause-run
returns-in-Ok-tell_status-clause-run g c =
    inr (stepped_told c.args.code.now c.args.names.now c.args.steps _ (g.W.World.holds c.make_steps.new.world) (g.W.World.holds c.tell_status.new.world) c.in-Ok-make_steps.end c.note_of.result c.status_of.result c.requires.lost c.in-Ok-make_steps.ensures.ended
    c.in-Ok-tell_status.ensures.told c.note_of.ensures.steps c.status_of.ensures.steps)

pub returns-clause-run : goal.returns-clause-run
returns-clause-run g c =
    inr (stepped_untold c.args.code.now c.args.names.now c.args.steps _ (g.W.World.holds c.make_steps.new.world) (g.W.World.holds c.tell_status.new.world) c.in-Ok-make_steps.end c.note_of.result c.in-Err-tell_status.stop c.requires.lost c.in-Ok-make_steps.ensures.ended
    c.in-Err-tell_status.ensures.rest c.in-Err-tell_status.ensures.part c.note_of.ensures.steps c.in-Err-tell_status.ensures.untold c.in-Err-tell_status.ensures.stop)
