use Rattle.std.proofs.Common.{refl, None}
use Rattle.fy_words.specs.Order.{why}
use Rattle.fy_world.specs.declared.note.Note.TheVariants as note
use Rattle.fy_world.proofs.Counting.{called_fetch, called_same}
use Rattle.fy_tool.specs.Given.{by_text}
use Rattle.fy_tool.proofs.Explaining.{explained_some, serves_explained, serves_untold}
use Rattle.fy_tool.proofs.Serving.{after, fetched_file, only, serves_down, serves_unread, tells}
use Rattle.fy_tool.proofs.why.why_file.Goals as goal

pub returns-in-Err-clause-serves : goal.returns-in-Err-clause-serves
returns-in-Err-clause-serves g c =
    serves_unread (why c.args.file.now c.args.width) _ _ _ _ _ _ c.in-Err.stop c.in-Err.ensures.holds c.in-Err.ensures.counted c.in-Err.ensures.input (called_fetch _ _ c.in-Err.ensures.called)

pub returns-in-Ok-Refused-clause-serves : goal.returns-in-Ok-Refused-clause-serves
returns-in-Ok-Refused-clause-serves g c =
    let h = rw c.in-Ok-Refused.field-0-is at c.in-Ok-Refused.ensures.told in
    let order = why c.args.file.now c.args.width in
    serves_down order (only h.0) h.0 2 (note.Refused c.in-Ok-Refused.why) _ _ _ _ _ _ _ _ _ _ refl h.2.1 (by_text None c.in-Ok-Refused.why h.2.0)
    (after order (only h.0) _ _ _ _ _ _ _ _ _ _ (tells order _ _ _ h.1 tt) c.in-Ok-Refused.ensures.holds c.in-Ok-Refused.ensures.counted (fetched_file order (only h.0) _ _ (called_fetch _ _ c.in-Ok-Refused.ensures.called)) c.refuse.ensures.own c.refuse.ensures.counted (called_same 0 _ _ _ c.refuse.ensures.called)) c.refuse.ensures.memory c.refuse.ensures.did c.refuse.ensures.called

pub tell_lines-requires-clause-some : goal.tell_lines-requires-clause-some
tell_lines-requires-clause-some g c =
    let h = rw c.in-Ok-Untyped.field-0-is at c.in-Ok-Untyped.ensures.told in
    rw c.as_slice.ensures (explained_some h.0 c.width_of.result c.in-Ok-Untyped.lines h.2.1)

pub returns-in-Ok-Untyped-clause-serves : goal.returns-in-Ok-Untyped-clause-serves
returns-in-Ok-Untyped-clause-serves g c =
    let h = rw (c.in-Ok-Untyped.field-0-is, c.width_of.ensures) at c.in-Ok-Untyped.ensures.told in
    let order = why c.args.file.now c.args.width in
    let did = rw c.as_slice.ensures at c.tell_lines.ensures.did in
    serves_explained c.args.file.now h.0 c.args.width c.in-Ok-Untyped.place c.in-Ok-Untyped.lines _ _ _ _ _ _ _ _ _ _ h.2.0 h.2.1
    (after order (only h.0) _ _ _ _ _ _ _ _ _ _ (tells order _ _ _ h.1 tt) c.in-Ok-Untyped.ensures.holds c.in-Ok-Untyped.ensures.counted (fetched_file order (only h.0) _ _ (called_fetch _ _ c.in-Ok-Untyped.ensures.called)) c.tell_lines.ensures.own c.tell_lines.ensures.counted (called_same 0 _ _ _ c.tell_lines.ensures.called)) c.tell_lines.ensures.memory did

pub returns-in-Ok-Accepted-clause-serves : goal.returns-in-Ok-Accepted-clause-serves
returns-in-Ok-Accepted-clause-serves g c =
    let h = rw c.in-Ok-Accepted.field-0-is at c.in-Ok-Accepted.ensures.told in
    let order = why c.args.file.now c.args.width in
    serves_untold c.args.file.now h.0 c.args.width _ _ _ _ _ _ _ _ _ _ h.2
    (after order (only h.0) _ _ _ _ _ _ _ _ _ _ (tells order _ _ _ h.1 tt) c.in-Ok-Accepted.ensures.holds c.in-Ok-Accepted.ensures.counted (fetched_file order (only h.0) _ _ (called_fetch _ _ c.in-Ok-Accepted.ensures.called)) c.write.ensures.own c.write.ensures.counted (called_same 0 _ _ _ c.write.ensures.called)) c.write.ensures.memory c.write.ensures.did
