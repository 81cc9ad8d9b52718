use Rattle.std.proofs.Common.{sym}
use Rattle.pe_gen.proofs.KeyLists.{found-key, key-found}
use Rattle.pe_gen.proofs.KeyTests.{same_step, same_step-refl, same_step-true}
use Rattle.pe_gen.proofs.steps.number_of_step.Goals as goal

pub returns-in-Some : goal.returns-in-Some
returns-in-Some c = found-key same_step same_step-true same_step-refl c.args.steps.now.keys c.args.step c.in-Some.number (sym c.in-Some.ensures.index)

pub returns-in-None : goal.returns-in-None
returns-in-None c = λ n at.
    let found = key-found same_step same_step-true same_step-refl c.args.steps.now.keys c.args.step n at in
    let none = c.in-None.ensures.found in
    absurd cc
