use Rattle.std.proofs.Common.{◌+◌, sym, subst}
use Rattle.pe_gen.proofs.KeyTests.{same_step, same_step-true, same_step-refl}
use Rattle.pe_gen.proofs.StepLemmas.{AreStepsTo, one-step}
use Rattle.pe_gen.proofs.steps.steps_of.Goals as goal

pub loop-number-preserved : goal.loop-number-preserved
loop-number-preserved c =
    subst (λ ks. AreStepsTo c.args.shapes.now (c.loop-number.number + 1) ks) (sym c.in_ok-insert.ensures.keys)
    (one-step same_step same_step-true same_step-refl c.args.shapes.now c.requires.once c.loop-number.number c.loop-number.steps.keys c.step_of.result c.loop-number.invariant c.step_of.ensures)
