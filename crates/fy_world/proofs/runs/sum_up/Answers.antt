use Rattle.fy_world.proofs.Sampling.{summed_told, summed_untold, summed_unput}
use Rattle.fy_world.proofs.runs.sum_up.Goals as goal

pub returns-in-Ok-tell_end-clause-sums : goal.returns-in-Ok-tell_end-clause-sums
returns-in-Ok-tell_end-clause-sums g c = λ own is.
    summed_told _ (g.W.World.holds c.put_summary.new.world) (g.W.World.holds c.tell_end.new.world) c.args.run c.status_of-status.result own (c.status_of-status.ensures.machine own is) c.in-Ok.ensures.put (c.in-Ok-tell_end.ensures.told own is)

pub returns-in-Err-tell_end-clause-sums : goal.returns-in-Err-tell_end-clause-sums
returns-in-Err-tell_end-clause-sums g c = λ own is.
    summed_untold _ (g.W.World.holds c.put_summary.new.world) (g.W.World.holds c.tell_end.new.world) c.args.run c.status_of-status.result c.in-Err-tell_end.stop own (c.status_of-status.ensures.machine own is) c.in-Ok.ensures.put
    c.in-Err-tell_end.ensures.rest (c.in-Err-tell_end.ensures.part own is) c.in-Err-tell_end.ensures.stop

pub returns-in-Err-clause-sums : goal.returns-in-Err-clause-sums
returns-in-Err-clause-sums g c = λ own is.
    summed_unput _ (g.W.World.holds c.put_summary.new.world) c.args.run c.status_of-status.result c.in-Err.stop own (c.status_of-status.ensures.machine own is) c.in-Err.ensures.rest c.in-Err.ensures.part c.in-Err.ensures.stop
