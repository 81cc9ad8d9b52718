use Rattle.std.proofs.Common.{◌≡◌, ℕ, ◌+◌, ◌-◌, ◌≤◌, length, Some, refl, sym, ap, ◌∙◌, subst, arith}
use Rattle.pe_machine.specs.States.{Wanted}
use Rattle.pe_machine.specs.Step.{index_entered, taken}
use Rattle.pe_machine.specs.Shown.{thunk_of}
use Rattle.pe_machine.specs.Names.{IsPlacedThunk}
use Rattle.pe_machine.specs.Places.{IsHeldAt}
use Rattle.pe_machine.specs.Turns.{frames_of, state_of, kept_of}
use Rattle.pe_machine.specs.declared.frames.Thunk.{Thunk}
use Rattle.pe_machine.proofs.PlanLemmas.{taken_at, frames_stay, index_jump}
use Rattle.pe_machine.proofs.sequences.enter_index.Goals as goal

pub enter_jump-requires : goal.enter_jump-requires
enter_jump-requires c = subst (IsPlacedThunk (frames_of c.args.core.now)) c.in-Jump.is c.requires.thunk

pub returns-in-Jump-clause-moves : goal.returns-in-Jump-clause-moves
returns-in-Jump-clause-moves c =
    let core = c.args.core.now in
    let items = core.contexts.items in
    let at = c.requires.held in
    let some = at.0 in
    let last : length items - 1 + 1 ≡ length items = omega arith in
    let w : Wanted = record { is_written = c.args.is_written; number = c.args.name.number } in
    c.enter_jump.ensures.moves
    ∙ index_jump c.args.code.now c.args.shape c.in-Jump.jump.number w c.args.thunk c.args.held (length items - 1) items (state_of core) refl at last c.requires.argument
    ∙ sym (ap (λ (t : Thunk). taken (λ k z. index_entered c.args.code.now (Some c.args.shape) w (thunk_of t) z) (state_of core).contexts (state_of core)) c.in-Jump.is)

pub index_turn-requires-clause-stays : goal.index_turn-requires-clause-stays
index_turn-requires-clause-stays c = λ jump same. c.in_default.not-Jump jump same

pub returns-in_default-clause-moves : goal.returns-in_default-clause-moves
returns-in_default-clause-moves c =
    let core = c.args.core.now in
    let items = core.contexts.items in
    let kept = c.kept_taken.result in
    let w : Wanted = record { is_written = c.args.is_written; number = c.args.name.number } in
    let e : length items - 1 ≡ kept.contexts = sym c.kept_taken.ensures.contexts in
    let P : ℕ → Type 0 = λ k. IsHeldAt c.args.held k items in
    let at = subst P e c.requires.held in
    let some = c.requires.held.0 in
    let last : kept.contexts + 1 ≡ length items = omega (arith, c.kept_taken.ensures.contexts) in
    let many : length core.frames.items ≤ kept.frames = omega (arith, c.kept_taken.ensures.frames) in
    c.index_turn.ensures.moves (kept_of kept (state_of core)) (frames_stay core.cells.items core.frames.items kept.contexts kept.frames kept.load (state_of core) refl many)
    ∙ sym (taken_at (λ k z. index_entered c.args.code.now (Some c.args.shape) w (thunk_of c.args.thunk) z) c.args.held kept.contexts kept.frames kept.load items core.cells.items core.frames.items (state_of core) refl refl at last many
    c.kept_taken.ensures.load)
