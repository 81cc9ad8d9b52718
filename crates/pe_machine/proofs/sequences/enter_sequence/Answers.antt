use Rattle.std.proofs.Common.{◌≡◌, ℕ, ◌≤◌, List, [], length, take, drop, true, false, Some, sym, ap, ◌∙◌, arith}
use Rattle.std.specs.declared.option.Option.{Option}
use Rattle.pe_machine.specs.States as states
use Rattle.pe_machine.specs.States.{Sequence, oldest, sequence_at}
use Rattle.pe_machine.specs.Step.{a_cell, a_length, no_part, asked_at, sequence_asked, taken, length_meets}
use Rattle.pe_machine.specs.Shown.{frames_onto}
use Rattle.pe_machine.specs.Turns.{state_of}
use Rattle.pe_machine.specs.declared.core_state.Core.{Core}
use Rattle.std.proofs.lemmas.List.{length-take-le, length-drop}
use Rattle.pe_machine.proofs.Stacks.{oldest_all, length-frames}
use Rattle.pe_machine.proofs.PlanLemmas.{asked_reads, asked_writes, asked_measures, asked_nothing, sequence_asked_by}
use Rattle.pe_machine.proofs.sequences.enter_sequence.Goals as goal
use Rattle.pe_machine.proofs.sequences.enter_sequence.Goals.{In-Some}

-- all frames are looked through
all_frames : (core : Core) (n : ℕ) → length core.frames.items ≤ n → oldest n (state_of core).frames ≡ (state_of core).frames
all_frames core n many = oldest_all n (frames_onto core.cells.items [] core.frames.items) (omega (arith, length-frames core.cells.items core.frames.items))

abbrev cells_there : In-Some → Sequence
cells_there c = record { place = c.in-Some.extent.place; values = take c.in-Some.extent.count (drop c.in-Some.extent.start c.args.core.now.cells.items) }

there : (c : In-Some) → sequence_at c.args.name.number (state_of c.args.core.now).frames ≡ Some (cells_there c)
there c =
    let core = c.args.core.now in
    ap (λ (fs : List states.Frame). sequence_at c.args.name.number fs) (sym (all_frames core c.len.result (omega (arith, c.len.ensures, core.frames.ok.0)))) ∙ c.in-Some.ensures.extent

pub returns-in_default-clause-moves : goal.returns-in_default-clause-moves
returns-in_default-clause-moves c =
    let core = c.args.core.now in
    let n = c.args.name.number in
    c.stay.ensures.moves
    ∙ ap (λ (o : Option Sequence). sequence_asked c.args.code.now (asked_at c.args.code.now.sequences c.args.shape) n o (state_of core))
    (sym (ap (λ (fs : List states.Frame). sequence_at n fs) (sym (all_frames core c.len.result (omega (arith, c.len.ensures, core.frames.ok.0)))) ∙ c.in_default.ensures.extent))

pub returns-then-is_assignment-clause-moves : goal.returns-then-is_assignment-clause-moves
returns-then-is_assignment-clause-moves c =
    let code = c.args.code.now in
    let at = (goal.at.returns-then-is_assignment-clause-moves c).In-Some in
    c.take_index.ensures.moves
    ∙ sym (sequence_asked_by code _ (a_cell false) c.args.name.number _ (cells_there at) (state_of c.args.core.now) (asked_reads code.sequences c.args.shape (sym c.is_assignment.ensures ∙ c.if-is_assignment.true)) (there at))

pub returns-then-is_assignment-2-clause-moves : goal.returns-then-is_assignment-2-clause-moves
returns-then-is_assignment-2-clause-moves c =
    let code = c.args.code.now in
    let at = (goal.at.returns-then-is_assignment-2-clause-moves c).In-Some in
    c.take_index-then-is_assignment-2.ensures.moves
    ∙ sym (sequence_asked_by code _ (a_cell true) c.args.name.number _ (cells_there at) (state_of c.args.core.now)
    (asked_writes code.sequences c.args.shape (sym c.is_assignment.ensures ∙ c.if-is_assignment.false) (sym c.is_assignment-2.ensures ∙ c.if-is_assignment-2.true)) (there at))

pub returns-then-is_assignment-3-clause-moves : goal.returns-then-is_assignment-3-clause-moves
returns-then-is_assignment-3-clause-moves c =
    let core = c.args.core.now in
    let code = c.args.code.now in
    let at = (goal.at.returns-then-is_assignment-3-clause-moves c).In-Some in
    let inside = c.in-Some.ensures.inside in
    let rest = length-drop c.in-Some.extent.start core.cells.items in
    let many : c.in-Some.extent.count ≡ length (cells_there at).values = sym (length-take-le c.in-Some.extent.count (drop c.in-Some.extent.start core.cells.items) (omega (arith, inside, rest))) in
    c.ask.ensures.moves
    ∙ ap (λ (k : ℕ). taken (length_meets k) (state_of core).contexts (state_of core)) many
    ∙ sym (sequence_asked_by code _ a_length c.args.name.number _ (cells_there at) (state_of core)
    (asked_measures code.sequences c.args.shape (sym c.is_assignment.ensures ∙ c.if-is_assignment.false) (sym c.is_assignment-2.ensures ∙ c.if-is_assignment-2.false) (sym c.is_assignment-3.ensures ∙ c.if-is_assignment-3.true)) (there at))

pub returns-clause-moves : goal.returns-clause-moves
returns-clause-moves c =
    let code = c.args.code.now in
    let at = (goal.at.returns-clause-moves c).In-Some in
    c.stay-2.ensures.moves
    ∙ sym (sequence_asked_by code _ no_part c.args.name.number _ (cells_there at) (state_of c.args.core.now)
    (asked_nothing code.sequences c.args.shape (sym c.is_assignment.ensures ∙ c.if-is_assignment.false) (sym c.is_assignment-2.ensures ∙ c.if-is_assignment-2.false) (sym c.is_assignment-3.ensures ∙ c.if-is_assignment-3.false)) (there at))
