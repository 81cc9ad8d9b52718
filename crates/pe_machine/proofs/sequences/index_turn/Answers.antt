use Rattle.pe_machine.specs.Turns.{frames_of}
use Rattle.pe_machine.proofs.sequences.index_turn.Goals as goal

pub returns-in-Literal-clause-placed : goal.returns-in-Literal-clause-placed
returns-in-Literal-clause-placed c = c.index_with.ensures.placed (frames_of c.args.core.now) c.requires.name

pub unreachable-requires : goal.unreachable-requires
unreachable-requires c = c.requires.stays _ c.in-Jump.is
