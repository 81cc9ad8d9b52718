use Rattle.std.proofs.Common.{refl, subst, None}
use Rattle.fy_phrase.specs.Reads.{reads}
use Rattle.fy_words.specs.Order.{copy}
use Rattle.fy_world.specs.Working.{HasCopied}
use Rattle.fy_world.specs.declared.note.Note.TheVariants as note
use Rattle.fy_world.proofs.Counting.{called_fetch, called_same}
use Rattle.fy_tool.specs.Given.{by_text}
use Rattle.fy_tool.proofs.Serving.{after, fetched_file, only, serves_down, serves_unread, tells}
use Rattle.fy_tool.proofs.TextCommands.{serves_copied}
use Rattle.fy_tool.proofs.copy.copy_file.Goals as goal

pub returns-in-Err-clause-serves : goal.returns-in-Err-clause-serves
returns-in-Err-clause-serves g c = serves_unread (copy c.args.file.now c.args.steps) _ _ _ _ _ _ c.in-Err.stop c.in-Err.ensures.holds c.in-Err.ensures.counted c.in-Err.ensures.input (called_fetch _ _ c.in-Err.ensures.called)

pub returns-in-Ok-Err-clause-serves : goal.returns-in-Ok-Err-clause-serves
returns-in-Ok-Err-clause-serves g c =
    let h = rw c.in-Ok-Err.field-0-is at c.in-Ok-Err.ensures.read in
    let order = copy c.args.file.now c.args.steps in
    serves_down order (only h.0) h.0 2 (note.Refused c.in-Ok-Err.why) _ _ _ _ _ _ _ _ _ _ refl refl (by_text None c.in-Ok-Err.why h.2)
    (after order (only h.0) _ _ _ _ _ _ _ _ _ _ (tells order _ _ _ h.1 tt) c.in-Ok-Err.ensures.holds c.in-Ok-Err.ensures.counted (fetched_file order (only h.0) _ _ (called_fetch _ _ c.in-Ok-Err.ensures.called)) c.refuse.ensures.own c.refuse.ensures.counted (called_same 0 _ _ _ c.refuse.ensures.called)) c.refuse.ensures.memory c.refuse.ensures.did c.refuse.ensures.called

pub returns-in-Ok-Ok-clause-serves : goal.returns-in-Ok-Ok-clause-serves
returns-in-Ok-Ok-clause-serves g c =
    let h = rw c.in-Ok-Ok.field-0-is at c.in-Ok-Ok.ensures.read in
    let order = copy c.args.file.now c.args.steps in
    let holds = g.W.World.holds in
    serves_copied c.args.file.now c.args.steps h.0 c.in-Ok-Ok.program _ _ _ _ _ _ _ _ _ _ h.2
    (after order (only h.0) _ _ _ _ _ _ _ _ _ _ (tells order _ _ _ h.1 tt) c.in-Ok-Ok.ensures.holds c.in-Ok-Ok.ensures.counted (fetched_file order (only h.0) _ _ (called_fetch _ _ c.in-Ok-Ok.ensures.called)) c.run_copied.ensures.own c.run_copied.ensures.counted (called_same 0 _ _ _ c.run_copied.ensures.called))
    (subst (λ steps. HasCopied (reads c.in-Ok-Ok.program.phrase) steps (holds c.program_in.new.world) (holds c.run_copied.new.world) c.run_copied.result) c.copy_wanted.ensures c.run_copied.ensures.run)
