use Rattle.std.proofs.Common.{◌≡◌, ℕ, ◌+◌, ◌-◌, ◌≤◌, length, refl, sym, ◌∙◌, subst, arith}
use Rattle.pe_machine.specs.Places.{IsHeldAt}
use Rattle.pe_machine.specs.Turns.{state_of, kept_of, demand_move}
use Rattle.pe_machine.proofs.PlanLemmas.{taken_at, frames_stay}
use Rattle.pe_machine.proofs.plans.ask.Goals as goal

pub returns-in-Some-clause-moves : goal.returns-in-Some-clause-moves
returns-in-Some-clause-moves c =
    let core = c.args.core.now in
    let items = core.contexts.items in
    let kept = c.kept_taken.result in
    let e : length items - 1 ≡ kept.contexts = sym c.kept_taken.ensures.contexts in
    let P : ℕ → Type 0 = λ k. IsHeldAt c.in-Some.held k items in
    let at = subst P e c.in-Some.ensures.held in
    let some = c.in-Some.ensures.held.0 in
    let last : kept.contexts + 1 ≡ length items = omega (arith, c.kept_taken.ensures.contexts) in
    let many : length core.frames.items ≤ kept.frames = omega (arith, c.kept_taken.ensures.frames) in
    c.meet_demand.ensures.moves (kept_of kept (state_of core)) (frames_stay core.cells.items core.frames.items kept.contexts kept.frames kept.load (state_of core) refl many)
    ∙ sym (taken_at (demand_move c.args.demand) c.in-Some.held kept.contexts kept.frames kept.load items core.cells.items core.frames.items (state_of core) refl refl at last many c.kept_taken.ensures.load)
