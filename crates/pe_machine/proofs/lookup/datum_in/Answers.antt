use Rattle.std.proofs.Common.{drop, sym, ap, ◌∙◌, arith}
use Rattle.pe_machine.specs.States.{datum_in}
use Rattle.pe_machine.specs.Shown.{binding_of}
use Rattle.pe_machine.specs.declared.frames.Binding.{Binding}
use Rattle.pe_machine.proofs.FrameLemmas.{datum_by_none, datum_by_place, no_datum}
use Rattle.pe_machine.proofs.lookup.datum_in.Goals as goal

pub returns-in_err-place : goal.returns-in_err-place
returns-in_err-place c =
    let core = c.args.core.now in
    c.from_residual.ensures
    ∙ sym (datum_by_none core.cells.items c.args.name.number c.len.result core.frames.items (omega (arith, c.len.ensures, core.frames.ok.0)) c.in_err-place.ensures)

pub returns-in-ToCell : goal.returns-in-ToCell
returns-in-ToCell c =
    let core = c.args.core.now in
    sym (datum_by_place core.cells.items c.args.name.number core.next c.len.result c.in_ok-place.place core.frames.items c.index.result.now (omega (arith, c.len.ensures, core.frames.ok.0)) core.numbered
    c.in_ok-place.ensures c.index.ensures
    ∙ ap (λ (b : Binding). datum_in (binding_of (drop c.index.result.now.cells core.cells.items) b)) c.in-ToCell.is)

pub returns-in_default : goal.returns-in_default
returns-in_default c =
    let core = c.args.core.now in
    sym (datum_by_place core.cells.items c.args.name.number core.next c.len.result c.in_ok-place.place core.frames.items c.index.result.now (omega (arith, c.len.ensures, core.frames.ok.0)) core.numbered
    c.in_ok-place.ensures c.index.ensures
    ∙ no_datum (drop c.index.result.now.cells core.cells.items) c.index.result.now.binding c.in_default.not-ToCell)
