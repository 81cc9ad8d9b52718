use Rattle.fy_world.specs.Runs.{run_note}
use Rattle.fy_world.specs.declared.note.Note.TheVariants as note
use Rattle.fy_world.proofs.Endings.{told_by, part_by}
use Rattle.fy_world.proofs.runs.tell_end.Goals as goal

pub returns-clause-told : goal.returns-clause-told
returns-clause-told g c = λ own is.
    told_by (g.W.World.holds c.args.world.now) (g.W.World.holds c.tell_counted.new.world) c.tell_counted.result c.note_of.result (run_note own) (note.Instructions c.args.run.steps) (c.note_of.ensures.machine own is) c.tell_counted.ensures.told

pub returns-clause-part : goal.returns-clause-part
returns-clause-part g c = λ own is.
    part_by (g.W.World.holds c.args.world.now) (g.W.World.holds c.tell_counted.new.world) c.tell_counted.result c.note_of.result (run_note own) (note.Instructions c.args.run.steps) (c.note_of.ensures.machine own is) c.tell_counted.ensures.part
