use Rattle.std.proofs.Common.{◌≡◌}
use Rattle.rv_insn.specs.declared.events.Status.TheVariants.{Running}
use Rattle.tests_machine.proofs.tests.patterns.runs_as_steps.Given as goal

abbrev pub invariant-loop-count : goal.invariant-loop-count
invariant-loop-count g l = l.stepped.core.status ≡ Running
