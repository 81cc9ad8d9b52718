use Rattle.pe_machine.specs.Turns.{frames_of}
use Rattle.pe_machine.proofs.demands.enter.Goals as goal

pub returns-in-Literal-clause-placed : goal.returns-in-Literal-clause-placed
returns-in-Literal-clause-placed c = c.stay-in-Literal.ensures.placed (c.give_value.ensures.placed (frames_of c.args.core.now))
