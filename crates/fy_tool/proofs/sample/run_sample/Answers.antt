use Rattle.std.proofs.Common.{[], refl, None}
use Rattle.fy_sample.specs.Sample.{sample_text}
use Rattle.fy_words.specs.Order.{sample}
use Rattle.fy_world.proofs.Counting.{called_none, called_same, counted_keeps}
use Rattle.fy_world.specs.declared.note.Note.TheVariants as note
use Rattle.fy_tool.specs.Due.{keeps_of}
use Rattle.fy_tool.specs.Given.{by_text}
use Rattle.fy_tool.proofs.Serving.{after, fetched_file, serves_down, serves_nothing, tells}
use Rattle.fy_tool.proofs.ImageCommands.{buildable, given_found, nothing_read, serves_sample}
use Rattle.fy_tool.proofs.sample.run_sample.Goals as goal

pub returns-in-Err-clause-serves : goal.returns-in-Err-clause-serves
returns-in-Err-clause-serves g c = serves_nothing _ _ _ _ c.in-Err.stop c.in-Err.ensures.memory

pub returns-in-Ok-Err-clause-serves : goal.returns-in-Ok-Err-clause-serves
returns-in-Ok-Err-clause-serves g c =
    let is = rw c.in-Ok-Err.field-0-is at c.in-Ok-Err.ensures.program in
    let order = sample c.args.number c.args.size in
    serves_down order nothing_read (sample_text c.args.number c.args.size) 2 (note.Refused c.in-Ok-Err.why) _ _ _ _ _ _ _ _ _ _ refl refl (by_text None c.in-Ok-Err.why is)
    (after order nothing_read _ _ _ _ _ _ _ _ _ _ (tells order _ _ _ tt tt) refl refl (fetched_file order nothing_read _ _ (called_none _ _ refl)) c.refuse.ensures.own (counted_keeps [] (keeps_of order) _ _ c.refuse.result c.refuse.ensures.counted) (called_same 0 _ _ _ c.refuse.ensures.called)) c.refuse.ensures.memory c.refuse.ensures.did c.refuse.ensures.called

pub sample_program-requires : goal.sample_program-requires
sample_program-requires g c =
    let is = rw c.in-Ok-Ok.field-0-is at c.in-Ok-Ok.ensures.program in
    buildable (sample_text c.args.number c.args.size) None None c.in-Ok-Ok.program (given_found (sample_text c.args.number c.args.size) None c.in-Ok-Ok.program is)

pub returns-in-Ok-Ok-clause-serves : goal.returns-in-Ok-Ok-clause-serves
returns-in-Ok-Ok-clause-serves g c =
    let is = rw c.in-Ok-Ok.field-0-is at c.in-Ok-Ok.ensures.program in
    let order = sample c.args.number c.args.size in
    serves_sample c.args.number c.args.size c.in-Ok-Ok.program _ _ _ _ _ _ _ _ _ _ c.runs_show_copy_rule.ensures is
    (after order nothing_read _ _ _ _ _ _ _ _ _ _ (tells order _ _ _ tt tt) refl refl (fetched_file order nothing_read _ _ (called_none _ _ refl)) c.sample_program.ensures.own c.sample_program.ensures.counted c.sample_program.ensures.called) c.sample_program.ensures.samples
