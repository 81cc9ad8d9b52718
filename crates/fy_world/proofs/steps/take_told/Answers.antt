use Rattle.std.proofs.Common.{[], ◌∷◌, ◌++◌, sym, ap, subst}
use Rattle.fy_base.specs.Outside.{IsAtEnd}
use Rattle.fy_world.specs.World.{Contents}
use Rattle.fy_world.specs.Steps.{step_text}
use Rattle.fy_world.proofs.StepLines.{byte_told, byte_stopped, byte_drawn}
use Rattle.fy_world.proofs.steps.take_told.Goals as goal

pub take-requires : goal.take-requires
take-requires g c = λ was. subst IsAtEnd (sym (ap (λ (x : Contents). x.input) c.in-Ok.ensures.told)) (c.requires was)

pub returns-in-Ok-clause-drew : goal.returns-in-Ok-clause-drew
returns-in-Ok-clause-drew g c =
    byte_drawn c.take.result (step_text c.args.code.now c.args.names.now c.args.address ++ 10 ∷ []) _ (g.W.World.holds c.tell_step.new.world) (g.W.World.holds c.take.new.self) c.args.over.now c.take.new.over c.in-Ok.ensures.told c.take.ensures.drew

pub returns-in-Ok-clause-told : goal.returns-in-Ok-clause-told
returns-in-Ok-clause-told g c =
    byte_told c.take.result (step_text c.args.code.now c.args.names.now c.args.address ++ 10 ∷ []) _ (g.W.World.holds c.tell_step.new.world) (g.W.World.holds c.take.new.self) c.in-Ok.ensures.told c.take.ensures.rest

pub returns-in-Ok-clause-part : goal.returns-in-Ok-clause-part
returns-in-Ok-clause-part g c =
    byte_stopped c.take.result (step_text c.args.code.now c.args.names.now c.args.address ++ 10 ∷ []) _ (g.W.World.holds c.tell_step.new.world) (g.W.World.holds c.take.new.self) c.in-Ok.ensures.told c.take.ensures.none c.take.ensures.stop
