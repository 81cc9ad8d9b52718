use Rattle.std.proofs.Common.{◌≡◌, [], take}
use Rattle.pe_machine.specs.Step.{jumped}
use Rattle.pe_machine.specs.Shown.{contexts_onto}
use Rattle.pe_machine.specs.Turns.{state_of}
use Rattle.pe_machine.proofs.plans.jump.Given as goal

abbrev pub invariant-loop-place : goal.invariant-loop-place
invariant-loop-place l = jumped l.n (contexts_onto [] l.core.contexts.items) (state_of l.core) ≡ jumped l.n (contexts_onto [] (take l.place l.core.contexts.items)) (state_of l.core)
