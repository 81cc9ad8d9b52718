use Rattle.std.proofs.Common.{[], ◌∷◌, ◌++◌, ◌∙◌}
use Rattle.fy_world.specs.Steps.{step_text}
use Rattle.fy_world.proofs.StepLines.{none_put, line_told, line_part}
use Rattle.fy_world.proofs.steps.tell_step.Goals as goal

pub returns-in-Ok-clause-told : goal.returns-in-Ok-clause-told
returns-in-Ok-clause-told g c =
    line_told c.note.result _ (g.W.World.holds c.note.new.self) c.as_slice.result.now (step_text c.args.code.now c.args.names.now c.args.address ++ 10 ∷ []) (c.as_slice.ensures.value ∙ c.in-Ok.ensures) c.note.ensures.put

pub returns-in-Ok-clause-part : goal.returns-in-Ok-clause-part
returns-in-Ok-clause-part g c =
    line_part c.note.result _ (g.W.World.holds c.note.new.self) c.as_slice.result.now (step_text c.args.code.now c.args.names.now c.args.address ++ 10 ∷ []) (c.as_slice.ensures.value ∙ c.in-Ok.ensures) c.note.ensures.rest c.note.ensures.part c.note.ensures.stop

pub returns-in-Err-clause-part : goal.returns-in-Err-clause-part
returns-in-Err-clause-part g c = none_put (step_text c.args.code.now c.args.names.now c.args.address ++ 10 ∷ []) [] _
