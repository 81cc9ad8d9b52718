use Rattle.std.proofs.Common.{refl, subst}
use Rattle.fy_words.specs.Order.{exec}
use Rattle.fy_world.specs.Working.{Executes}
use Rattle.fy_world.proofs.Counting.{called_fetch, called_same}
use Rattle.fy_tool.proofs.Serving.{after, fetched_file, only, serves_unread, tells}
use Rattle.fy_tool.proofs.ImageCommands.{serves_no_image, serves_exec}
use Rattle.fy_tool.proofs.exec.exec_file.Goals as goal

pub returns-in-Err-clause-serves : goal.returns-in-Err-clause-serves
returns-in-Err-clause-serves g c = serves_unread (exec c.args.name.now c.args.steps c.args.trace) _ _ _ _ _ _ c.in-Err.stop c.in-Err.ensures.holds c.in-Err.ensures.counted c.in-Err.ensures.input (called_fetch _ _ c.in-Err.ensures.called)

pub returns-in-Ok-Err-clause-serves : goal.returns-in-Ok-Err-clause-serves
returns-in-Ok-Err-clause-serves g c =
    let h = rw c.in-Ok-Err.field-0-is at c.in-Ok-Err.ensures.read in
    let order = exec c.args.name.now c.args.steps c.args.trace in
    serves_no_image order h.0 h.2.0 c.in-Ok-Err.why _ _ _ _ _ _ _ _ _ _ refl h.2.1 h.2.2
    (after order (only h.0) _ _ _ _ _ _ _ _ _ _ (tells order _ _ _ h.1 tt) c.in-Ok-Err.ensures.holds c.in-Ok-Err.ensures.counted (fetched_file order (only h.0) _ _ (called_fetch _ _ c.in-Ok-Err.ensures.called)) c.refuse.ensures.own c.refuse.ensures.counted (called_same 0 _ _ _ c.refuse.ensures.called)) c.refuse.ensures.memory c.refuse.ensures.did c.refuse.ensures.called

pub returns-in-Ok-Ok-clause-serves : goal.returns-in-Ok-Ok-clause-serves
returns-in-Ok-Ok-clause-serves g c =
    let h = rw c.in-Ok-Ok.field-0-is at c.in-Ok-Ok.ensures.read in
    let order = exec c.args.name.now c.args.steps c.args.trace in
    let holds = g.W.World.holds in
    serves_exec c.args.name.now c.args.steps c.args.trace h.0 c.in-Ok-Ok.image _ _ _ _ _ _ _ _ _ _ h.2
    (after order (only h.0) _ _ _ _ _ _ _ _ _ _ (tells order _ _ _ h.1 tt) c.in-Ok-Ok.ensures.holds c.in-Ok-Ok.ensures.counted (fetched_file order (only h.0) _ _ (called_fetch _ _ c.in-Ok-Ok.ensures.called)) c.execute.ensures.own c.execute.ensures.counted (called_same 0 _ _ _ c.execute.ensures.called)) c.execute.ensures.ready
    (subst (λ steps. Executes c.in-Ok-Ok.image steps c.args.trace (holds c.image_in.new.world) (holds c.execute.new.world) c.execute.result) c.steps_wanted.ensures c.execute.ensures.executes)
