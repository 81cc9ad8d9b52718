use Rattle.std.proofs.Common.{◌≡◌, ℕ, ◌+◌, ◌-◌, ◌<◌, [], length, take, refl, sym, ap, ◌∙◌, arith}
use Rattle.std.proofs.lemmas.List.{get_or_read}
use Rattle.pe_machine.specs.Step.{jumped}
use Rattle.pe_machine.specs.Shown.{contexts_onto}
use Rattle.pe_machine.specs.Places.{IsHeldAt}
use Rattle.pe_machine.specs.Turns.{frames_of, state_of, kept_of}
use Rattle.pe_machine.proofs.PlanLemmas.{jumped_found, jumped_past}
use Rattle.pe_machine.proofs.plans.jump.Goals as goal

pub returns-then-is_target-clause-moves : goal.returns-then-is_target-clause-moves
returns-then-is_target-clause-moves c =
    let core = c.args.core.now in
    let items = core.contexts.items in
    let i : ℕ = c.loop-place.place - 1 in
    let held = c.index-held.result.now in
    let e : c.loop-place.place ≡ i + 1 = omega arith in
    let lt : i < length items = omega (arith, c.loop-place.auto.place, c.len-place.ensures, core.contexts.ok.0) in
    let at : IsHeldAt held i items = (lt, λ d. sym (get_or_read items i held lt c.index-held.ensures d)) in
    c.complete.ensures.moves (kept_of c.kept_before.result (state_of core))
    ∙ sym (c.loop-place.invariant
    ∙ ap (λ (k : ℕ). jumped c.args.n (contexts_onto [] (take k items)) (state_of core)) e
    ∙ jumped_found c.args.n i held items c.kept_before.result (state_of core) refl at (sym c.is_target.ensures ∙ c.if-is_target.true) c.kept_before.ensures.kept)

pub loop-place-preserved : goal.loop-place-preserved
loop-place-preserved c =
    let core = c.args.core.now in
    let items = core.contexts.items in
    let i : ℕ = c.loop-place.place - 1 in
    let held = c.index-held.result.now in
    let e : c.loop-place.place ≡ i + 1 = omega arith in
    let lt : i < length items = omega (arith, c.loop-place.auto.place, c.len-place.ensures, core.contexts.ok.0) in
    let at : IsHeldAt held i items = (lt, λ d. sym (get_or_read items i held lt c.index-held.ensures d)) in
    c.loop-place.invariant
    ∙ ap (λ (k : ℕ). jumped c.args.n (contexts_onto [] (take k items)) (state_of core)) e
    ∙ jumped_past c.args.n i held items (state_of core) at (sym c.is_target.ensures ∙ c.if-is_target.false)

pub returns-then-is_target-clause-placed : goal.returns-then-is_target-clause-placed
returns-then-is_target-clause-placed c = c.complete.ensures.placed (frames_of c.args.core.now)
