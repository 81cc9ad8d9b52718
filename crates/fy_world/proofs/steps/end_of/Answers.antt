use Rattle.fy_world.proofs.StepLines.{not_ended}
use Rattle.fy_world.proofs.steps.end_of.Goals as goal

pub returns-in_default : goal.returns-in_default
returns-in_default c = not_ended _ c.args.code.now _ _ c.in_default.not-Ended c.step.ensures
