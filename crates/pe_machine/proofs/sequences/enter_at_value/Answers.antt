use Rattle.std.proofs.Common.{◌≡◌, ℕ, ◌+◌, ◌-◌, length, None, refl, sym, ap, ◌∙◌, arith}
use Rattle.std.specs.declared.option.Option.{Option}
use Rattle.pe_machine.specs.States.{Wanted}
use Rattle.pe_machine.specs.Step.{index_entered, taken}
use Rattle.pe_machine.specs.Shown.{thunk_of}
use Rattle.pe_machine.specs.Turns.{state_of}
use Rattle.pe_machine.proofs.PlanLemmas.{taken_top}
use Rattle.pe_machine.proofs.sequences.enter_at_value.Goals as goal

pub returns-in-Some-clause-moves : goal.returns-in-Some-clause-moves
returns-in-Some-clause-moves c =
    let s = state_of c.args.core.now in
    let w : Wanted = record { is_written = c.args.is_written; number = c.args.name.number } in
    c.enter_index.ensures.moves ∙ sym (ap (λ (o : Option ℕ). taken (λ k z. index_entered c.args.code.now o w (thunk_of c.args.thunk) z) s.contexts s) c.in-Some.is)

pub returns-in-None-clause-moves : goal.returns-in-None-clause-moves
returns-in-None-clause-moves c =
    let items = c.args.core.now.contexts.items in
    let s = state_of c.args.core.now in
    let at = c.requires.held in
    let some = at.0 in
    let last : length items - 1 + 1 ≡ length items = omega arith in
    let w : Wanted = record { is_written = c.args.is_written; number = c.args.name.number } in
    c.stay.ensures.moves
    ∙ sym (taken_top (λ k z. index_entered c.args.code.now None w (thunk_of c.args.thunk) z) c.args.held (length items - 1) items s refl at last)
    ∙ sym (ap (λ (o : Option ℕ). taken (λ k z. index_entered c.args.code.now o w (thunk_of c.args.thunk) z) s.contexts s) c.in-None.is)
