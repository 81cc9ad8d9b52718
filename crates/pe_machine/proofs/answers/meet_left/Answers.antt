use Rattle.pe_machine.proofs.answers.meet_left.Goals as goal

pub returns-in_default-clause-placed : goal.returns-in_default-clause-placed
returns-in_default-clause-placed c frames is = c.push.ensures.placed frames tt is

pub returns-in-And-Bool-false-clause-placed : goal.returns-in-And-Bool-false-clause-placed
returns-in-And-Bool-false-clause-placed c frames is = c.give_value.ensures.placed frames
