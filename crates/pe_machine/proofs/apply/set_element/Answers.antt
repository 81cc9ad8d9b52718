use Rattle.std.proofs.Common.{◌≡◌, ℕ, ◌+◌, ◌<◌, List, [], length, set, refl, sym, ap, subst, arith, length-set}
use Rattle.pe_machine.specs.States as states
use Rattle.pe_machine.specs.States.{to_thunk, to_cell, to_escape, to_sequence, with_element, with_binding}
use Rattle.pe_machine.specs.Sound.{IsNumbered, AreBased, AreLaid, cells_of, count_in}
use Rattle.pe_machine.specs.Shown.{frames_onto, contexts_onto}
use Rattle.pe_machine.specs.Turns.{state_of}
use Rattle.fy_base.specs.declared.data.Datum.{Datum}
use Rattle.pe_machine.specs.declared.frames.Frame.{Frame}
use Rattle.pe_machine.proofs.FrameLemmas.{binding_by_none, numbered_with_binding}
use Rattle.pe_machine.proofs.CellLemmas.{element_at, element_past, laid_within}
use Rattle.pe_machine.proofs.ContextLemmas.{based_same, counts-with_binding}
use Rattle.pe_machine.proofs.apply.set_element.Goals as goal
use Rattle.pe_machine.proofs.apply.set_element.Goals.{Then-i-count_in}

set_is : (c : Then-i-count_in) → with_binding c.args.name.number (with_element c.args.i c.args.v) (frames_onto c.args.core.now.cells.items [] c.args.core.now.frames.items)
    ≡ frames_onto (set c.args.core.now.cells.items (c.index-frame.result.now.cells + c.args.i) c.args.v) [] c.args.core.now.frames.items
set_is c =
    let core = c.args.core.now in
    let below = c.in-Some.ensures.0 in
    let lt : c.in-Some.place < length core.frames.items = omega (arith, c.len.ensures, core.frames.ok.0) in
    element_at c.args.name.number core.next c.in-Some.place c.args.i c.args.v core.cells.items core.frames.items c.index-frame.result.now core.numbered core.laid lt c.in-Some.ensures.1 c.index-frame.ensures
    (rw c.count_in.ensures at c.if-i-count_in.true)

same_count : (i : ℕ) (v : Datum) (b : states.Binding) → cells_of b ≡ cells_of (with_element i v b)
same_count i v (to_thunk t) = refl
same_count i v (to_cell u) = refl
same_count i v to_escape = refl
same_count i v (to_sequence q) = sym (length-set q.values i v)

-- the cell is one of all
within : (c : Then-i-count_in) → c.index-frame.result.now.cells + c.args.i < length c.args.core.now.cells.items
within c =
    let core = c.args.core.now in
    let below = c.in-Some.ensures.0 in
    let lt : c.in-Some.place < length core.frames.items = omega (arith, c.len.ensures, core.frames.ok.0) in
    let end = (laid_within 0 core.frames.items (length core.cells.items) c.in-Some.place c.index-frame.result.now core.laid lt).1 in
    let start = ap (λ (f : Frame). f.cells) c.index-frame.ensures in
    let many = ap (λ (f : Frame). count_in f.binding) c.index-frame.ensures in
    omega (arith, c.count_in.ensures, c.if-i-count_in.true, end, start, many)

pub overflow_add-at : goal.overflow_add-at
overflow_add-at c = let inside = within (goal.at.overflow_add-at c).Then-i-count_in in let core = c.args.core.now in omega (arith, core.cells.ok.0, core.cells_counted, core.within, core.small)

pub index_mut-requires : goal.index_mut-requires
index_mut-requires c = let inside = within (goal.at.index_mut-requires c).Then-i-count_in in omega (arith, c.args.core.now.cells.ok.0)

pub invariant_of-core-clause-numbered : goal.invariant_of-core-clause-numbered
invariant_of-core-clause-numbered c =
    let core = c.args.core.now in
    subst (λ (fs : List states.Frame). IsNumbered core.next fs) (set_is (goal.at.invariant_of-core-clause-numbered c).Then-i-count_in)
    (numbered_with_binding core.next c.args.name.number (with_element c.args.i c.args.v) (frames_onto core.cells.items [] core.frames.items) core.numbered)

pub invariant_of-core-clause-laid : goal.invariant_of-core-clause-laid
invariant_of-core-clause-laid c =
    let core = c.args.core.now in
    subst (λ (e : ℕ). AreLaid 0 core.frames.items e) (sym (length-set core.cells.items (c.index-frame.result.now.cells + c.args.i) c.args.v)) core.laid

pub invariant_of-core-clause-based : goal.invariant_of-core-clause-based
invariant_of-core-clause-based c =
    let core = c.args.core.now in
    let at = (goal.at.invariant_of-core-clause-based c).Then-i-count_in in
    let fs = frames_onto core.cells.items [] core.frames.items in
    let cs = contexts_onto [] core.contexts.items in
    subst (λ (gs : List states.Frame). AreBased core.limit gs cs) (set_is at)
    (based_same core.limit fs (with_binding c.args.name.number (with_element c.args.i c.args.v) fs) cs (counts-with_binding c.args.name.number (with_element c.args.i c.args.v) fs (same_count c.args.i c.args.v)) core.based)

pub returns-then-i-count_in-clause-state : goal.returns-then-i-count_in-clause-state
returns-then-i-count_in-clause-state c =
    ap (λ (fs : List states.Frame). record (state_of c.args.core.now) { frames = fs }) (sym (set_is (goal.at.returns-then-i-count_in-clause-state c).Then-i-count_in))

pub returns-else-i-count_in-clause-state : goal.returns-else-i-count_in-clause-state
returns-else-i-count_in-clause-state c =
    let core = c.args.core.now in
    let below = c.in-Some.ensures.0 in
    ap (λ (fs : List states.Frame). record (state_of core) { frames = fs })
    (sym (element_past c.args.name.number core.next c.len.result c.in-Some.place c.args.i c.args.v core.cells.items core.frames.items c.index-frame.result.now (omega (arith, c.len.ensures, core.frames.ok.0)) core.numbered core.laid
    c.in-Some.ensures c.index-frame.ensures (rw c.count_in.ensures at c.if-i-count_in.false)))

pub returns-in_default-clause-state : goal.returns-in_default-clause-state
returns-in_default-clause-state c =
    let core = c.args.core.now in
    ap (λ (fs : List states.Frame). record (state_of core) { frames = fs })
    (sym (binding_by_none core.cells.items c.args.name.number c.len.result (with_element c.args.i c.args.v) core.frames.items (omega (arith, c.len.ensures, core.frames.ok.0)) c.in_default.ensures))
