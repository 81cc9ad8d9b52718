use Rattle.std.proofs.Common.{[], arith}
use Rattle.pe_machine.specs.Shown.{frames_onto}
use Rattle.pe_machine.specs.Turns.{frames_of}
use Rattle.pe_machine.proofs.Stacks.{length-frames}
use Rattle.pe_machine.proofs.CellLemmas.{cells_counted}
use Rattle.pe_machine.proofs.ContextLemmas.{based_push}
use Rattle.pe_machine.proofs.NameLemmas.{with_context}
use Rattle.pe_machine.proofs.apply.push_context.Goals as goal

pub invariant_of-core-clause-based : goal.invariant_of-core-clause-based
invariant_of-core-clause-based c =
    let core = c.args.core.now in
    let paid = core.cells_counted in
    let all = cells_counted core.cells.items core.frames.items _ core.laid (omega arith) in
    based_push core.limit (frames_onto core.cells.items [] core.frames.items) core.contexts.items _ _ c.in-Ok.ensures.items
    (omega (arith, c.len.ensures, core.frames.ok.0, length-frames core.cells.items core.frames.items))
    (omega (arith, c.len.ensures, core.frames.ok.0, core.contexts.ok.0)) (omega (arith, all, paid, core.cells.ok.0)) core.within core.based

pub invariant_of-core-clause-contexts_placed : goal.invariant_of-core-clause-contexts_placed
invariant_of-core-clause-contexts_placed c =
    let core = c.args.core.now in
    with_context (frames_of core) core.contexts.items _ _ c.in-Ok.ensures.items core.contexts_placed c.requires.placed
