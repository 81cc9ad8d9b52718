use Rattle.std.proofs.Common.{◌≡◌, ◌+◌, ◌-◌, [], length, take, refl, sym, ap, ◌∙◌, subst, arith}
use Rattle.pe_machine.specs.States.{PeState, Wanted}
use Rattle.pe_machine.specs.Step.{index_entered, index_meets}
use Rattle.pe_machine.specs.Shown.{context_of, contexts_onto, thunk_of}
use Rattle.pe_machine.specs.Names.{IsPlacedContext}
use Rattle.pe_machine.specs.Turns.{frames_of, state_of}
use Rattle.pe_machine.specs.declared.contexts.Context.{Context}
use Rattle.pe_machine.proofs.PlanLemmas.{taken_none, taken_top, no_argument}
use Rattle.pe_machine.proofs.sequences.take_index.Goals as goal

pub returns-in-None-clause-moves : goal.returns-in-None-clause-moves
returns-in-None-clause-moves c =
    let core = c.args.core.now in
    let w : Wanted = record { is_written = c.args.is_written; number = c.args.name.number } in
    c.stay.ensures.moves ∙ sym (taken_none (index_meets c.args.code.now w) (state_of core).contexts (state_of core) c.in-None.ensures.held)

pub returns-in_default-clause-moves : goal.returns-in_default-clause-moves
returns-in_default-clause-moves c =
    let core = c.args.core.now in
    let items = core.contexts.items in
    let at = c.in-Some.ensures.held in
    let some = at.0 in
    let last : length items - 1 + 1 ≡ length items = omega arith in
    let w : Wanted = record { is_written = c.args.is_written; number = c.args.name.number } in
    let rest : PeState = record (state_of core) { contexts = contexts_onto [] (take (length items - 1) items) } in
    c.stay-in_default.ensures.moves
    ∙ sym (taken_top (index_meets c.args.code.now w) c.in-Some.held (length items - 1) items (state_of core) refl at last ∙ no_argument c.args.code.now w c.in-Some.held.context rest c.in_default.not-Arg)

pub enter_at_value-requires-clause-thunk : goal.enter_at_value-requires-clause-thunk
enter_at_value-requires-clause-thunk c = subst (IsPlacedContext (frames_of c.args.core.now)) c.in-Arg.is c.in-Some.ensures.placed

pub returns-in-Arg-clause-moves : goal.returns-in-Arg-clause-moves
returns-in-Arg-clause-moves c =
    let core = c.args.core.now in
    let code = c.args.code.now in
    let items = core.contexts.items in
    let at = c.in-Some.ensures.held in
    let some = at.0 in
    let last : length items - 1 + 1 ≡ length items = omega arith in
    let w : Wanted = record { is_written = c.args.is_written; number = c.args.name.number } in
    let rest : PeState = record (state_of core) { contexts = contexts_onto [] (take (length items - 1) items) } in
    c.enter_at_value.ensures.moves
    ∙ taken_top (λ k z. index_entered code code.sequences.value w (thunk_of c.in-Arg.thunk) z) c.in-Some.held (length items - 1) items (state_of core) refl at last
    ∙ ap (λ (k : Context). index_meets code w (context_of k) rest) (sym c.in-Arg.is)
    ∙ sym (taken_top (index_meets code w) c.in-Some.held (length items - 1) items (state_of core) refl at last)
