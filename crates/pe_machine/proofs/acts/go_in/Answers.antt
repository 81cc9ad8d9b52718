use Rattle.pe_machine.proofs.acts.go_in.Goals as goal

pub returns-clause-placed : goal.returns-clause-placed
returns-clause-placed c frames context is = c.push.ensures.placed frames context (c.beside.ensures.placed frames is)
