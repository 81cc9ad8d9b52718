use Rattle.std.proofs.Common.{◌<◌, drop, length, ap, ◌∙◌, arith}
use Rattle.pe_machine.specs.States.{sequence_in}
use Rattle.pe_machine.specs.Sound.{count_in}
use Rattle.pe_machine.specs.Shown.{binding_of}
use Rattle.pe_machine.specs.declared.frames.Frame.{Frame}
use Rattle.pe_machine.specs.declared.frames.Binding.{Binding}
use Rattle.pe_machine.proofs.FrameLemmas.{sequence_by_none, sequence_by_place, no_sequence}
use Rattle.pe_machine.proofs.CellLemmas.{laid_within}
use Rattle.pe_machine.proofs.lookup.extent_of.Goals as goal

pub returns-in-ToSequence-clause-extent : goal.returns-in-ToSequence-clause-extent
returns-in-ToSequence-clause-extent c =
    let core = c.args.core.now in
    sequence_by_place core.cells.items c.args.name.number core.next c.args.end c.in_ok-place.place core.frames.items c.index-frame.result.now c.requires.end core.numbered c.in_ok-place.ensures c.index-frame.ensures
    ∙ ap (λ (b : Binding). sequence_in (binding_of (drop c.index-frame.result.now.cells core.cells.items) b)) c.in-ToSequence.is

pub returns-in-ToSequence-clause-inside : goal.returns-in-ToSequence-clause-inside
returns-in-ToSequence-clause-inside c =
    let core = c.args.core.now in
    let below = c.in_ok-place.ensures.0 in
    let lt : c.in_ok-place.place < length core.frames.items = omega (arith, c.requires.end) in
    let end = (laid_within 0 core.frames.items (length core.cells.items) c.in_ok-place.place c.index-frame.result.now core.laid lt).1 in
    let start = ap (λ (f : Frame). f.cells) c.index-frame.ensures in
    let many = ap (λ (f : Frame). count_in f.binding) c.index-frame.ensures in
    let count = ap (λ (b : Binding). count_in b) c.in-ToSequence.is in
    omega (arith, end, start, many, count)

pub returns-in_default-clause-extent : goal.returns-in_default-clause-extent
returns-in_default-clause-extent c =
    let core = c.args.core.now in
    sequence_by_place core.cells.items c.args.name.number core.next c.args.end c.in_ok-place.place core.frames.items c.index-frame.result.now c.requires.end core.numbered c.in_ok-place.ensures c.index-frame.ensures
    ∙ no_sequence (drop c.index-frame.result.now.cells core.cells.items) c.index-frame.result.now.binding c.in_default.not-ToSequence

pub returns-in_err-place-clause-extent : goal.returns-in_err-place-clause-extent
returns-in_err-place-clause-extent c =
    let core = c.args.core.now in
    let none = sequence_by_none core.cells.items c.args.name.number c.args.end core.frames.items c.requires.end c.in_err-place.ensures in
    rw c.from_residual.ensures none
