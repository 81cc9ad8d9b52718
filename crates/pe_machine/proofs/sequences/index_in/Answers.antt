use Rattle.pe_machine.specs.Turns.{frames_of}
use Rattle.pe_machine.proofs.sequences.index_in.Goals as goal

pub returns-in-Some-clause-placed : goal.returns-in-Some-clause-placed
returns-in-Some-clause-placed c = c.index_with.ensures.placed (frames_of c.args.core.now) c.requires.name
