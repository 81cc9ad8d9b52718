use Rattle.pe_machine.specs.Turns.{frames_of}
use Rattle.pe_machine.proofs.NameLemmas.{name_of_frame}
use Rattle.pe_machine.proofs.lookup.own_cell.Goals as goal

pub returns-in-Some-clause-placed : goal.returns-in-Some-clause-placed
returns-in-Some-clause-placed c =
    let core = c.args.core.now in
    let frames = frames_of core in
    let x = c.index.result.now in
    let place = c.in-Some.place in
    let inside = c.in-Some.ensures.0 in
    c.cell_at.ensures.placed frames (name_of_frame core.cells.items place x frames core.numbered inside c.index.ensures)
