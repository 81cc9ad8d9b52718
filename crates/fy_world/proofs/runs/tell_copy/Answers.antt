use Rattle.fy_world.specs.Runs.{copy_note}
use Rattle.fy_world.specs.declared.note.Note.TheVariants as note
use Rattle.fy_world.proofs.Endings.{told_by, part_by}
use Rattle.fy_world.proofs.runs.tell_copy.Goals as goal

pub returns-clause-told : goal.returns-clause-told
returns-clause-told g c = λ own is.
    told_by (g.W.World.holds c.args.world.now) (g.W.World.holds c.tell_counted.new.world) c.tell_counted.result c.note_of.result (copy_note own) (note.Copied c.args.run.steps c.args.run.peak) (c.note_of.ensures.copy own is) c.tell_counted.ensures.told

pub returns-clause-part : goal.returns-clause-part
returns-clause-part g c = λ own is.
    part_by (g.W.World.holds c.args.world.now) (g.W.World.holds c.tell_counted.new.world) c.tell_counted.result c.note_of.result (copy_note own) (note.Copied c.args.run.steps c.args.run.peak) (c.note_of.ensures.copy own is) c.tell_counted.ensures.part
