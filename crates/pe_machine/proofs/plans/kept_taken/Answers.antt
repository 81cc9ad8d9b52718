use Rattle.std.proofs.Common.{◌-◌, length, arith}
use Rattle.pe_machine.specs.Turns.{state_of}
use Rattle.pe_machine.proofs.Stacks.{length-frames}
use Rattle.pe_machine.proofs.CellLemmas.{cells_counted}
use Rattle.pe_machine.proofs.PlanLemmas.{fair_fewer}
use Rattle.pe_machine.proofs.plans.kept_taken.Goals as goal

pub returns-clause-fair : goal.returns-clause-fair
returns-clause-fair c =
    let core = c.args.core.now in
    let paid = core.counted in
    let all = cells_counted core.cells.items core.frames.items (length core.cells.items) core.laid (omega arith) in
    let cells = core.cells_counted in
    fair_fewer core.limit (state_of core) (c.len.result - 1) c.len-2.result core.load
    (omega (arith, c.len-2.ensures, core.frames.ok.0, length-frames core.cells.items core.frames.items))
    (omega (arith, paid, c.len.ensures, c.len-2.ensures)) (omega (arith, all, cells, core.cells.ok.0)) core.within core.based
