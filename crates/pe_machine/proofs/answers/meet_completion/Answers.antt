use Rattle.std.proofs.Common.{subst}
use Rattle.pe_machine.specs.Names.{IsPlacedContext}
use Rattle.pe_machine.proofs.answers.meet_completion.Goals as goal

pub returns-in-Then-clause-placed : goal.returns-in-Then-clause-placed
returns-in-Then-clause-placed c frames is = c.go_to.ensures.placed frames (subst (IsPlacedContext frames) c.in-Then.is is)

pub returns-in-Body-clause-placed : goal.returns-in-Body-clause-placed
returns-in-Body-clause-placed c frames is = c.go_to-in-Body.ensures.placed frames (subst (IsPlacedContext frames) c.in-Body.is is)

pub returns-in-Loop-clause-placed : goal.returns-in-Loop-clause-placed
returns-in-Loop-clause-placed c frames is = c.go_to-in-Loop.ensures.placed frames (subst (IsPlacedContext frames) c.in-Loop.is is)

pub returns-in-Drop-clause-placed : goal.returns-in-Drop-clause-placed
returns-in-Drop-clause-placed c frames is = c.complete.ensures.placed frames

pub returns-in-Escape-clause-placed : goal.returns-in-Escape-clause-placed
returns-in-Escape-clause-placed c frames is = c.complete-in-Escape.ensures.placed frames
