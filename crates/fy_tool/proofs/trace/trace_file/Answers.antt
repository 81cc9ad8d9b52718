use Rattle.std.proofs.Common.{◌⊎◌, refl, subst, None}
use Rattle.fy_words.specs.Order.{trace}
use Rattle.fy_world.specs.Working.{IsUnbegun}
use Rattle.fy_world.specs.declared.note.Note.TheVariants as note
use Rattle.fy_world.proofs.Counting.{called_fetch, called_same}
use Rattle.fy_tool.specs.Given.{by_text}
use Rattle.fy_tool.specs.Working.{HasTraced}
use Rattle.fy_tool.proofs.Serving.{after, fetched_file, only, serves_down, serves_unread, tells}
use Rattle.fy_tool.proofs.TextCommands.{serves_traced}
use Rattle.fy_tool.proofs.trace.trace_file.Goals as goal

pub returns-in-Err-clause-serves : goal.returns-in-Err-clause-serves
returns-in-Err-clause-serves g c = serves_unread (trace c.args.file.now c.args.steps c.args.straight) _ _ _ _ _ _ c.in-Err.stop c.in-Err.ensures.holds c.in-Err.ensures.counted c.in-Err.ensures.input (called_fetch _ _ c.in-Err.ensures.called)

pub returns-in-Ok-Err-clause-serves : goal.returns-in-Ok-Err-clause-serves
returns-in-Ok-Err-clause-serves g c =
    let h = rw c.in-Ok-Err.field-0-is at c.in-Ok-Err.ensures.read in
    let order = trace c.args.file.now c.args.steps c.args.straight in
    serves_down order (only h.0) h.0 2 (note.Refused c.in-Ok-Err.why) _ _ _ _ _ _ _ _ _ _ refl refl (by_text None c.in-Ok-Err.why h.2)
    (after order (only h.0) _ _ _ _ _ _ _ _ _ _ (tells order _ _ _ h.1 tt) c.in-Ok-Err.ensures.holds c.in-Ok-Err.ensures.counted (fetched_file order (only h.0) _ _ (called_fetch _ _ c.in-Ok-Err.ensures.called)) c.refuse.ensures.own c.refuse.ensures.counted (called_same 0 _ _ _ c.refuse.ensures.called)) c.refuse.ensures.memory c.refuse.ensures.did c.refuse.ensures.called

pub trace_program-requires-clause-text : goal.trace_program-requires-clause-text
trace_program-requires-clause-text g c =
    let h = rw c.in-Ok-Ok.field-0-is at c.in-Ok-Ok.ensures.read in
    (h.0, h.2)

pub returns-in-Ok-Ok-clause-serves : goal.returns-in-Ok-Ok-clause-serves
returns-in-Ok-Ok-clause-serves g c =
    let h = rw c.in-Ok-Ok.field-0-is at c.in-Ok-Ok.ensures.read in
    let order = trace c.args.file.now c.args.steps c.args.straight in
    let holds = g.W.World.holds in
    let before = holds c.program_in.new.world in
    let now = holds c.trace_program.new.world in
    serves_traced c.args.file.now c.args.steps c.args.straight h.0 c.in-Ok-Ok.program _ _ _ _ _ _ _ _ _ _ h.2
    (after order (only h.0) _ _ _ _ _ _ _ _ _ _ (tells order _ _ _ h.1 tt) c.in-Ok-Ok.ensures.holds c.in-Ok-Ok.ensures.counted (fetched_file order (only h.0) _ _ (called_fetch _ _ c.in-Ok-Ok.ensures.called)) c.trace_program.ensures.own c.trace_program.ensures.counted (called_same 0 _ _ _ c.trace_program.ensures.called))
    (subst (λ steps. IsUnbegun before now c.trace_program.result ⊎ HasTraced c.in-Ok-Ok.program c.args.straight steps before now c.trace_program.result) c.trace_steps_wanted.ensures c.trace_program.ensures.traced)
