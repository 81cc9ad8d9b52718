use Rattle.pe_gen.proofs.StepLemmas.{AreStepsTo}
use Rattle.pe_gen.proofs.steps.steps_of.Given as goal

abbrev pub invariant-loop-number : goal.invariant-loop-number
invariant-loop-number l = AreStepsTo l.shapes l.number l.steps.keys
