use Rattle.std.proofs.Common.{map}
use Rattle.fy_world.specs.Note.{texts}
use Rattle.fy_world.specs.Shown.{shown}
use Rattle.fy_world.specs.Runs.{end_notes}
use Rattle.fy_world.proofs.Tracing.{told_both, told_part_more, notes_alone}
use Rattle.fy_world.proofs.runs.tell_traced.Goals as goal

pub returns-in-Ok-clause-told : goal.returns-in-Ok-clause-told
returns-in-Ok-clause-told g c = λ program own f is.
    told_both (map (shown program) c.args.trace.words.items) (texts (end_notes own c.args.run.steps)) _ (g.W.World.holds c.tell_trace.new.world) _ c.tell_end.result (c.in-Ok.ensures.told program f) (c.tell_end.ensures.told own is) (c.tell_end.ensures.part own is) c.tell_end.ensures.stop

pub returns-in-Err-clause-told : goal.returns-in-Err-clause-told
returns-in-Err-clause-told g c = λ program own f is.
    told_part_more (map (shown program) c.args.trace.words.items) (texts (end_notes own c.args.run.steps)) _ _ c.in-Err.stop (c.in-Err.ensures.told program f)

pub returns-in-Ok-clause-stop : goal.returns-in-Ok-clause-stop
returns-in-Ok-clause-stop g c = notes_alone c.tell_end.result c.tell_end.ensures.stop
