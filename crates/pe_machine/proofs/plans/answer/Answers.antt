use Rattle.std.proofs.Common.{◌≡◌, ℕ, ◌+◌, ◌-◌, length, refl, sym, ap, ◌∙◌, subst, arith}
use Rattle.pe_machine.specs.Places.{IsHeldAt}
use Rattle.pe_machine.specs.Names.{IsPlacedContext}
use Rattle.pe_machine.specs.Step.{datum_meets}
use Rattle.pe_machine.specs.Shown.{context_of}
use Rattle.pe_machine.specs.Turns.{frames_of, state_of, kept_of}
use Rattle.pe_machine.specs.declared.contexts.Context.{Context}
use Rattle.pe_machine.specs.declared.turns.Kept.{Kept}
use Rattle.pe_machine.proofs.PlanLemmas.{focused_at, focused_none}
use Rattle.pe_machine.proofs.plans.answer.Goals as goal

pub returns-in-None-clause-moves : goal.returns-in-None-clause-moves
returns-in-None-clause-moves c =
    let core = c.args.core.now in
    c.stay.ensures.moves ∙ sym (focused_none c.args.code.now c.args.v (state_of core).contexts (state_of core) c.in-None.ensures.held)

pub returns-in_default-clause-moves : goal.returns-in_default-clause-moves
returns-in_default-clause-moves c =
    let core = c.args.core.now in
    let items = core.contexts.items in
    let e : length items - 1 ≡ c.len.result - 1 = omega (arith, c.len.ensures, core.contexts.ok.0) in
    let P : ℕ → Type 0 = λ k. IsHeldAt c.in-Some.held k items in
    let at = subst P e c.in-Some.ensures.held in
    let some = c.in-Some.ensures.held.0 in
    let last : c.len.result - 1 + 1 ≡ length items = omega (arith, c.len.ensures, core.contexts.ok.0) in
    c.meet_datum.ensures.moves (kept_of c.kept_before.result (state_of core))
    ∙ sym (focused_at c.args.code.now c.args.v c.in-Some.held (c.len.result - 1) items c.kept_before.result (state_of core) refl at last c.kept_before.ensures.kept)

pub returns-in_default-clause-placed : goal.returns-in_default-clause-placed
returns-in_default-clause-placed c = c.meet_datum.ensures.placed (frames_of c.args.core.now) c.in-Some.ensures.placed

pub meet_datum-requires : goal.meet_datum-requires
meet_datum-requires c = λ w name same. c.in_default.not-Element w name same

pub pick-requires-clause-name : goal.pick-requires-clause-name
pick-requires-clause-name c = subst (IsPlacedContext (frames_of c.args.core.now)) c.in-Element.is c.in-Some.ensures.placed

pub returns-in-Element-clause-moves : goal.returns-in-Element-clause-moves
returns-in-Element-clause-moves c =
    let core = c.args.core.now in
    let items = core.contexts.items in
    let at = c.in-Some.ensures.held in
    let some = at.0 in
    let last : length items - 1 + 1 ≡ length items = omega arith in
    let kept : Kept = record { contexts = length items - 1; frames = c.in-Some.held.frames; load = c.in-Some.held.base } in
    c.pick.ensures.moves
    ∙ sym (ap (λ (k : Context). datum_meets c.args.code.now c.args.v (context_of k) (kept_of kept (state_of core))) c.in-Element.is)
    ∙ sym (focused_at c.args.code.now c.args.v c.in-Some.held (length items - 1) items kept (state_of core) refl at last refl)
