use Rattle.std.proofs.Common.{◌≡◌, ◌<◌, List, [], length, set, drop, refl, sym, ap, subst, arith}
use Rattle.pe_machine.specs.States as states
use Rattle.pe_machine.specs.States.{to_thunk, to_cell, to_escape, to_sequence, with_datum, with_cell}
use Rattle.pe_machine.specs.Sound.{IsNumbered, AreBased, cells_of}
use Rattle.pe_machine.specs.Shown.{frame_of, frames_onto, contexts_onto}
use Rattle.pe_machine.specs.Turns.{frames_of, state_of}
use Rattle.fy_base.specs.declared.data.Datum.{Datum}
use Rattle.pe_machine.specs.declared.frames.Frame.{Frame}
use Rattle.pe_machine.proofs.FrameLemmas.{binding_by_none, binding_by_place, numbered_with_binding}
use Rattle.pe_machine.proofs.CellLemmas.{laid_set}
use Rattle.pe_machine.proofs.ContextLemmas.{based_same, counts-with_binding}
use Rattle.pe_machine.proofs.NameLemmas.{frame_at, set_focus, set_contexts, set_frames}
use Rattle.pe_machine.proofs.apply.set_cell.Goals as goal
use Rattle.pe_machine.proofs.apply.set_cell.Goals.{After-with_datum}

-- the frame that is set
abbrev frame_set : After-with_datum → Frame
frame_set c = record {
  number = c.index-frame.result.now.number;
  depth = c.index-frame.result.now.depth;
  binding = c.with_datum.result;
  around = c.index-frame.result.now.around;
  cells = c.index-frame.result.now.cells;
}

set_is : (c : After-with_datum) → with_cell c.args.name.number c.args.v (frames_onto c.args.core.now.cells.items [] c.args.core.now.frames.items) ≡ frames_onto c.args.core.now.cells.items [] (set c.args.core.now.frames.items c.in-Some.place (frame_set c))
set_is c =
    let core = c.args.core.now in
    binding_by_place core.cells.items c.args.name.number core.next c.len.result c.in-Some.place (with_datum c.args.v) core.frames.items c.index-frame.result.now (frame_set c) (omega (arith, c.len.ensures, core.frames.ok.0)) core.numbered
    c.in-Some.ensures c.index-frame.ensures
    (ap (λ (b : states.Binding). record (frame_of core.cells.items c.index-frame.result.now) { binding = b }) (c.with_datum.ensures.binding (drop c.index-frame.result.now.cells core.cells.items)))

same_count : (v : Datum) (b : states.Binding) → cells_of b ≡ cells_of (with_datum v b)
same_count v (to_thunk t) = refl
same_count v (to_cell u) = refl
same_count v to_escape = refl
same_count v (to_sequence q) = refl

pub invariant_of-core-clause-numbered : goal.invariant_of-core-clause-numbered
invariant_of-core-clause-numbered c =
    let core = c.args.core.now in
    let at = (goal.at.invariant_of-core-clause-numbered c).After-with_datum in
    subst (λ (fs : List states.Frame). IsNumbered core.next fs) (set_is at)
    (numbered_with_binding core.next c.args.name.number (with_datum c.args.v) (frames_onto core.cells.items [] core.frames.items) core.numbered)

inside : (c : After-with_datum) → c.in-Some.place < length c.args.core.now.frames.items
inside c = let below = c.in-Some.ensures.0 in omega (arith, c.len.ensures, c.args.core.now.frames.ok.0)

pub invariant_of-core-clause-laid : goal.invariant_of-core-clause-laid
invariant_of-core-clause-laid c =
    let core = c.args.core.now in
    let at = (goal.at.invariant_of-core-clause-laid c).After-with_datum in
    laid_set 0 core.frames.items (length core.cells.items) c.in-Some.place c.index-frame.result.now (frame_set at) core.laid (inside at) c.index-frame.ensures refl c.with_datum.ensures.count

pub invariant_of-core-clause-based : goal.invariant_of-core-clause-based
invariant_of-core-clause-based c =
    let core = c.args.core.now in
    let at = (goal.at.invariant_of-core-clause-based c).After-with_datum in
    let fs = frames_onto core.cells.items [] core.frames.items in
    let cs = contexts_onto [] core.contexts.items in
    subst (λ (gs : List states.Frame). AreBased core.limit gs cs) (set_is at)
    (based_same core.limit fs (with_cell c.args.name.number c.args.v fs) cs (counts-with_binding c.args.name.number (with_datum c.args.v) fs (same_count c.args.v)) core.based)

pub invariant_of-core-clause-focus_placed : goal.invariant_of-core-clause-focus_placed
invariant_of-core-clause-focus_placed c =
    let core = c.args.core.now in
    let at = (goal.at.invariant_of-core-clause-focus_placed c).After-with_datum in
    set_focus c.in-Some.place c.index-frame.result.now (frame_set at) (frames_of core) (inside at) c.index-frame.ensures refl core.focus core.focus_placed

pub invariant_of-core-clause-contexts_placed : goal.invariant_of-core-clause-contexts_placed
invariant_of-core-clause-contexts_placed c =
    let core = c.args.core.now in
    let at = (goal.at.invariant_of-core-clause-contexts_placed c).After-with_datum in
    set_contexts c.in-Some.place c.index-frame.result.now (frame_set at) (frames_of core) (inside at) c.index-frame.ensures refl core.contexts.items core.contexts_placed

pub invariant_of-core-clause-frames_placed : goal.invariant_of-core-clause-frames_placed
invariant_of-core-clause-frames_placed c =
    let core = c.args.core.now in
    let at = (goal.at.invariant_of-core-clause-frames_placed c).After-with_datum in
    let was = frame_at c.in-Some.place c.index-frame.result.now (frames_of core) core.frames_placed (inside at) c.index-frame.ensures in
    set_frames c.in-Some.place c.index-frame.result.now (frame_set at) (frames_of core) (inside at) c.index-frame.ensures refl core.frames_placed (c.with_datum.ensures.placed (frames_of core) was.0, was.1)

pub returns-in-Some-clause-state : goal.returns-in-Some-clause-state
returns-in-Some-clause-state c =
    ap (λ (fs : List states.Frame). record (state_of c.args.core.now) { frames = fs }) (sym (set_is (goal.at.returns-in-Some-clause-state c).After-with_datum))

pub returns-in_default-clause-state : goal.returns-in_default-clause-state
returns-in_default-clause-state c =
    let core = c.args.core.now in
    ap (λ (fs : List states.Frame). record (state_of core) { frames = fs })
    (sym (binding_by_none core.cells.items c.args.name.number c.len.result (with_datum c.args.v) core.frames.items (omega (arith, c.len.ensures, core.frames.ok.0)) c.in_default.ensures))
