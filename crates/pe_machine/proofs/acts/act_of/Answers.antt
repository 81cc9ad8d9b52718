use Rattle.pe_machine.proofs.acts.act_of.Goals as goal

pub returns-in-Answer-clause-placed : goal.returns-in-Answer-clause-placed
returns-in-Answer-clause-placed c frames is = c.give_value.ensures.placed frames

pub returns-in-Op1-clause-placed : goal.returns-in-Op1-clause-placed
returns-in-Op1-clause-placed c frames is = c.go_in.ensures.placed frames tt is

pub returns-in-Op2-clause-placed : goal.returns-in-Op2-clause-placed
returns-in-Op2-clause-placed c frames is = c.go_in-in-Op2.ensures.placed frames (c.beside.ensures.placed frames is) is

pub returns-in-Cond-clause-placed : goal.returns-in-Cond-clause-placed
returns-in-Cond-clause-placed c frames is = c.go_in-in-Cond.ensures.placed frames (c.beside-in-Cond.ensures.placed frames is, c.beside-in-Cond-2.ensures.placed frames is) is

pub returns-in-Case-clause-placed : goal.returns-in-Case-clause-placed
returns-in-Case-clause-placed c frames is = c.go_in-in-Case.ensures.placed frames is is

pub returns-in-Pass-clause-placed : goal.returns-in-Pass-clause-placed
returns-in-Pass-clause-placed c frames is = c.go_in-in-Pass.ensures.placed frames is is

pub returns-in-PassData-clause-placed : goal.returns-in-PassData-clause-placed
returns-in-PassData-clause-placed c frames is = c.go_in-in-PassData.ensures.placed frames tt is

pub returns-in-Pick-clause-placed : goal.returns-in-Pick-clause-placed
returns-in-Pick-clause-placed c frames is = c.go_in-in-Pick.ensures.placed frames tt is

pub returns-in-Let-clause-placed : goal.returns-in-Let-clause-placed
returns-in-Let-clause-placed c frames is = c.bind.ensures.placed frames is (c.beside-in-Let.ensures.placed frames is)

pub returns-in-LetData-clause-placed : goal.returns-in-LetData-clause-placed
returns-in-LetData-clause-placed c frames is = c.bind-in-LetData.ensures.placed frames tt (c.beside-in-LetData.ensures.placed frames is)

pub returns-in-Knot-clause-placed : goal.returns-in-Knot-clause-placed
returns-in-Knot-clause-placed c frames is = c.bind-in-Knot.ensures.placed frames is (c.beside-in-Knot.ensures.placed frames is)

pub returns-in-Done-clause-placed : goal.returns-in-Done-clause-placed
returns-in-Done-clause-placed c frames is = c.complete.ensures.placed frames

pub returns-in-Seq-clause-placed : goal.returns-in-Seq-clause-placed
returns-in-Seq-clause-placed c frames is = c.go_in-in-Seq.ensures.placed frames (c.beside-in-Seq.ensures.placed frames is) is

pub returns-in-Assign-clause-placed : goal.returns-in-Assign-clause-placed
returns-in-Assign-clause-placed c frames is = c.go_in-in-Assign.ensures.placed frames (c.beside-in-Assign.ensures.placed frames is) is

pub returns-in-While-clause-placed : goal.returns-in-While-clause-placed
returns-in-While-clause-placed c frames is = c.go_in-in-While.ensures.placed frames (is, c.beside-in-While.ensures.placed frames is) is

pub returns-in-Loop-clause-placed : goal.returns-in-Loop-clause-placed
returns-in-Loop-clause-placed c frames is = c.go_in-in-Loop.ensures.placed frames is is

pub returns-in-New-clause-placed : goal.returns-in-New-clause-placed
returns-in-New-clause-placed c frames is = c.go_in-in-New.ensures.placed frames (c.beside-in-New.ensures.placed frames is) is

pub returns-in-Cells-clause-placed : goal.returns-in-Cells-clause-placed
returns-in-Cells-clause-placed c frames is = c.go_in-in-Cells.ensures.placed frames (c.beside-in-Cells.ensures.placed frames is) is

pub returns-in-Put-clause-placed : goal.returns-in-Put-clause-placed
returns-in-Put-clause-placed c frames is = c.go_in-in-Put.ensures.placed frames tt is
