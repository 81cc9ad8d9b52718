use Rattle.pe_machine.specs.Turns.{frames_of}
use Rattle.pe_machine.proofs.NameLemmas.{frame_at, name_of_frame}
use Rattle.pe_machine.proofs.lookup.variable.Goals as goal

pub returns-clause-placed : goal.returns-clause-placed
returns-clause-placed c =
    let core = c.args.core.now in
    let frames = frames_of core in
    let x = c.index.result.now in
    let place = c.in_ok-place.place in
    let inside = c.in_ok-place.ensures.0 in
    c.handed_on.ensures.placed frames (frame_at place x frames core.frames_placed inside c.index.ensures).0 (name_of_frame core.cells.items place x frames core.numbered inside c.index.ensures)
