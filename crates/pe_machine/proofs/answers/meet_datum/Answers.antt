use Rattle.std.proofs.Common.{subst}
use Rattle.pe_machine.specs.Names.{IsPlacedContext}
use Rattle.pe_machine.proofs.answers.meet_datum.Goals as goal

pub returns-in-Op1-clause-placed : goal.returns-in-Op1-clause-placed
returns-in-Op1-clause-placed c frames is = c.operate.ensures.placed frames

pub returns-in-OpL-clause-placed : goal.returns-in-OpL-clause-placed
returns-in-OpL-clause-placed c frames is = c.meet_left.ensures.placed frames (subst (IsPlacedContext frames) c.in-OpL.is is)

pub returns-in-OpR-clause-placed : goal.returns-in-OpR-clause-placed
returns-in-OpR-clause-placed c frames is = c.operate-in-OpR.ensures.placed frames

pub returns-in-If-clause-placed : goal.returns-in-If-clause-placed
returns-in-If-clause-placed c frames is = let both = subst (IsPlacedContext frames) c.in-If.is is in c.choose.ensures.placed frames (c.go_to.ensures.placed frames both.0) (c.go_to-in-If.ensures.placed frames both.1)

pub returns-in-Case-clause-placed : goal.returns-in-Case-clause-placed
returns-in-Case-clause-placed c frames is = c.pick.ensures.placed frames (subst (IsPlacedContext frames) c.in-Case.is is)

pub returns-in-While-clause-placed : goal.returns-in-While-clause-placed
returns-in-While-clause-placed c frames is = let both = subst (IsPlacedContext frames) c.in-While.is is in c.choose-in-While.ensures.placed frames (c.push.ensures.placed frames both.0 both.1) (c.complete.ensures.placed frames)

pub returns-in-Assign-clause-placed : goal.returns-in-Assign-clause-placed
returns-in-Assign-clause-placed c frames is = c.push-in-Assign.ensures.placed frames tt (subst (IsPlacedContext frames) c.in-Assign.is is)

pub returns-in-Cells-clause-placed : goal.returns-in-Cells-clause-placed
returns-in-Cells-clause-placed c frames is = c.count.ensures.placed frames (subst (IsPlacedContext frames) c.in-Cells.is is)
