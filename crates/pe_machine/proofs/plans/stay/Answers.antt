use Rattle.std.proofs.Common.{length, refl, ap, arith}
use Rattle.pe_machine.specs.States.{PeState}
use Rattle.pe_machine.specs.Turns.{state_of, turn_move}
use Rattle.pe_machine.proofs.Stacks.{length-frames}
use Rattle.pe_machine.proofs.CellLemmas.{cells_counted}
use Rattle.pe_machine.proofs.PlanLemmas.{stays, fair_fewer}
use Rattle.pe_machine.proofs.plans.stay.Goals as goal

pub returns-clause-moves : goal.returns-clause-moves
returns-clause-moves c =
    let core = c.args.core.now in
    ap (λ (s : PeState). turn_move c.args.turn s)
    (stays (state_of core) core.contexts.items core.cells.items core.frames.items c.len.result c.len-2.result core.load refl refl (omega (arith, c.len.ensures, core.contexts.ok.0)) (omega (arith, c.len-2.ensures, core.frames.ok.0)) refl)

pub returns-clause-fair : goal.returns-clause-fair
returns-clause-fair c =
    let core = c.args.core.now in
    let paid = core.counted in
    let all = cells_counted core.cells.items core.frames.items (length core.cells.items) core.laid (omega arith) in
    let cells = core.cells_counted in
    fair_fewer core.limit (state_of core) c.len.result c.len-2.result core.load
    (omega (arith, c.len-2.ensures, core.frames.ok.0, length-frames core.cells.items core.frames.items))
    (omega (arith, paid, c.len.ensures, c.len-2.ensures)) (omega (arith, all, cells, core.cells.ok.0)) core.within core.based
