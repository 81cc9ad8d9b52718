use Rattle.std.proofs.Common.{refl}
use Rattle.fy_words.specs.Order.{judge}
use Rattle.fy_world.proofs.Counting.{called_same}
use Rattle.fy_tool.proofs.ImageCommands.{both}
use Rattle.fy_tool.proofs.Judging.{serves_judged, serves_stop, stopped_some}
use Rattle.fy_tool.proofs.Serving.{after, down_own, serves_down, serves_ungiven, tells}
use Rattle.fy_tool.proofs.judge.judge_file.Goals as goal

pub returns-in-Err-clause-serves : goal.returns-in-Err-clause-serves
returns-in-Err-clause-serves g c =
    serves_ungiven (judge c.args.file.now c.args.name.now) c.args.file.now _ _ _ _ _ _ c.in-Err.stop refl (λ sources. refl) c.in-Err.ensures.holds c.in-Err.ensures.counted c.in-Err.ensures.input
    c.in-Err.ensures.stopped

pub refuse-requires : goal.refuse-requires
refuse-requires g c = let h = rw c.in-Ok-Down.field-0-is at c.in-Ok-Down.ensures.judged in down_own h.is.0

pub returns-in-Ok-Down-clause-serves : goal.returns-in-Ok-Down-clause-serves
returns-in-Ok-Down-clause-serves g c =
    let h = rw c.in-Ok-Down.field-0-is at c.in-Ok-Down.ensures.judged in
    let order = judge c.args.file.now c.args.name.now in
    serves_down order (both h.text h.derivation) h.text _ _ _ _ _ _ _ _ _ _ _ _ refl h.is.1 h.is.0
    (after order (both h.text h.derivation) _ _ _ _ _ _ _ _ _ _ (tells order _ _ _ h.told h.told_named) c.in-Ok-Down.ensures.holds c.in-Ok-Down.ensures.counted h.called c.refuse.ensures.own c.refuse.ensures.counted (called_same 0 _ _ _ c.refuse.ensures.called))
    c.refuse.ensures.memory c.refuse.ensures.did c.refuse.ensures.called

pub tell_lines-requires-clause-some : goal.tell_lines-requires-clause-some
tell_lines-requires-clause-some g c =
    let h = rw c.in-Ok-Stopped.field-0-is at c.in-Ok-Stopped.ensures.judged in
    rw c.as_slice.ensures (stopped_some h.text h.derivation c.in-Ok-Stopped.node c.in-Ok-Stopped.lines h.is)

pub returns-in-Ok-Stopped-clause-serves : goal.returns-in-Ok-Stopped-clause-serves
returns-in-Ok-Stopped-clause-serves g c =
    let h = rw c.in-Ok-Stopped.field-0-is at c.in-Ok-Stopped.ensures.judged in
    let order = judge c.args.file.now c.args.name.now in
    let did = rw c.as_slice.ensures at c.tell_lines.ensures.did in
    serves_stop c.args.file.now c.args.name.now h.text h.derivation c.in-Ok-Stopped.node c.in-Ok-Stopped.lines _ _ _ _ _ _ _ _ _ _ h.is
    (after order (both h.text h.derivation) _ _ _ _ _ _ _ _ _ _ (tells order _ _ _ h.told h.told_named) c.in-Ok-Stopped.ensures.holds c.in-Ok-Stopped.ensures.counted h.called c.tell_lines.ensures.own c.tell_lines.ensures.counted (called_same 0 _ _ _ c.tell_lines.ensures.called))
    c.tell_lines.ensures.memory did

pub returns-in-Ok-Accepted-clause-serves : goal.returns-in-Ok-Accepted-clause-serves
returns-in-Ok-Accepted-clause-serves g c =
    let h = rw c.in-Ok-Accepted.field-0-is at c.in-Ok-Accepted.ensures.judged in
    let order = judge c.args.file.now c.args.name.now in
    serves_judged c.args.file.now c.args.name.now h.text h.derivation _ _ _ _ _ _ _ _ _ _ h.is
    (after order (both h.text h.derivation) _ _ _ _ _ _ _ _ _ _ (tells order _ _ _ h.told h.told_named) c.in-Ok-Accepted.ensures.holds c.in-Ok-Accepted.ensures.counted h.called c.write.ensures.own c.write.ensures.counted (called_same 0 _ _ _ c.write.ensures.called))
    c.write.ensures.memory c.write.ensures.did
