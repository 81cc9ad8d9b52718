use Rattle.std.proofs.Common.{[], ◌∷◌, ◌++◌}
use Rattle.fy_world.specs.Steps.{step_text}
use Rattle.fy_world.specs.Stepping.{text_of}
use Rattle.fy_world.proofs.StepLines.{line_stopped, text_stopped, text_told}
use Rattle.fy_world.proofs.steps.put_told.Goals as goal

pub returns-in-Err-clause-part : goal.returns-in-Err-clause-part
returns-in-Err-clause-part g c = line_stopped (step_text c.args.code.now c.args.names.now c.args.address ++ 10 ∷ []) (text_of c.args.kind c.args.value) _ _ c.in-Err.stop c.in-Err.ensures.part

pub returns-in-Ok-put_datum-clause-put : goal.returns-in-Ok-put_datum-clause-put
returns-in-Ok-put_datum-clause-put g c =
    text_told (step_text c.args.code.now c.args.names.now c.args.address ++ 10 ∷ []) (text_of c.args.kind c.args.value) _ (g.W.World.holds c.tell_step.new.world) (g.W.World.holds c.put_datum.new.world) c.in-Ok.ensures.told c.in-Ok-put_datum.ensures.put

pub returns-in-Err-put_datum-clause-part : goal.returns-in-Err-put_datum-clause-part
returns-in-Err-put_datum-clause-part g c =
    text_stopped (step_text c.args.code.now c.args.names.now c.args.address ++ 10 ∷ []) (text_of c.args.kind c.args.value) _ (g.W.World.holds c.tell_step.new.world) (g.W.World.holds c.put_datum.new.world) c.in-Err-put_datum.stop c.in-Ok.ensures.told
    c.in-Err-put_datum.ensures.part
