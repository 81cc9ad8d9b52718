use Rattle.std.proofs.Common.{refl, None}
use Rattle.fy_words.specs.Order.{check}
use Rattle.fy_world.specs.declared.note.Note.TheVariants as note
use Rattle.fy_world.proofs.Counting.{called_fetch, called_same}
use Rattle.fy_tool.specs.Given.{by_text}
use Rattle.fy_front.proofs.Checking.{is_accepted}
use Rattle.fy_tool.proofs.Serving.{after, fetched_file, only, serves_down, serves_unread, tells}
use Rattle.fy_tool.proofs.TextCommands.{serves_accepted}
use Rattle.fy_tool.proofs.check.check_file.Goals as goal

pub returns-in-Err-clause-serves : goal.returns-in-Err-clause-serves
returns-in-Err-clause-serves g c = serves_unread (check c.args.file.now) _ _ _ _ _ _ c.in-Err.stop c.in-Err.ensures.holds c.in-Err.ensures.counted c.in-Err.ensures.input (called_fetch _ _ c.in-Err.ensures.called)

pub returns-in-Ok-Err-clause-serves : goal.returns-in-Ok-Err-clause-serves
returns-in-Ok-Err-clause-serves g c =
    let h = rw c.in-Ok-Err.field-0-is at c.in-Ok-Err.ensures.read in
    let order = check c.args.file.now in
    serves_down order (only h.0) h.0 2 (note.Refused c.in-Ok-Err.why) _ _ _ _ _ _ _ _ _ _ refl refl (by_text None c.in-Ok-Err.why h.2)
    (after order (only h.0) _ _ _ _ _ _ _ _ _ _ (tells order _ _ _ h.1 tt) c.in-Ok-Err.ensures.holds c.in-Ok-Err.ensures.counted (fetched_file order (only h.0) _ _ (called_fetch _ _ c.in-Ok-Err.ensures.called)) c.refuse.ensures.own c.refuse.ensures.counted (called_same 0 _ _ _ c.refuse.ensures.called)) c.refuse.ensures.memory c.refuse.ensures.did c.refuse.ensures.called

pub returns-clause-serves : goal.returns-clause-serves
returns-clause-serves g c =
    let h = rw c.in-Ok-Ok.field-0-is at c.in-Ok-Ok.ensures.read in
    let order = check c.args.file.now in
    serves_accepted c.args.file.now h.0 _ _ _ _ _ _ _ _ _ _ (is_accepted h.2)
    (after order (only h.0) _ _ _ _ _ _ _ _ _ _ (tells order _ _ _ h.1 tt) c.in-Ok-Ok.ensures.holds c.in-Ok-Ok.ensures.counted (fetched_file order (only h.0) _ _ (called_fetch _ _ c.in-Ok-Ok.ensures.called)) c.write.ensures.own c.write.ensures.counted (called_same 0 _ _ _ c.write.ensures.called)) c.write.ensures.memory c.write.ensures.did
