use Rattle.pe_machine.specs.Turns.{frames_of}
use Rattle.pe_machine.proofs.NameLemmas.{cut_change}
use Rattle.pe_machine.proofs.machine.PeState.go_on.Goals as goal

pub make-requires-clause-placed : goal.make-requires-clause-placed
make-requires-clause-placed c =
    cut_change c.args.kept.frames (frames_of c.args.self.now.core) (frames_of c.cut.new.core) c.args.change c.cut.ensures.frames c.requires.placed
