use Rattle.std.proofs.Common.{◌≡◌, ◌+◌, ◌-◌, ◌<◌, length, refl, sym, ap, ◌∙◌, arith}
use Rattle.std.proofs.lemmas.List.{get_or_read}
use Rattle.fy_phrase.specs.Copy.{element}
use Rattle.pe_machine.specs.States.{PeState, PeContext}
use Rattle.pe_machine.specs.Step.{PeMove, assignment_meets}
use Rattle.pe_machine.specs.Shown.{context_of}
use Rattle.pe_machine.specs.Places.{IsHeldAt}
use Rattle.pe_machine.specs.Turns.{kept_of, state_of}
use Rattle.pe_machine.specs.declared.contexts.Context.{Context}
use Rattle.pe_machine.specs.declared.contexts.Held.{Held}
use Rattle.pe_machine.proofs.PlanLemmas.{fair_at, fair_under, no_store, taken_under, under_none}
use Rattle.pe_machine.proofs.sequences.write_cell.Goals as goal
use Rattle.pe_machine.proofs.sequences.write_cell.Goals.{After-index}

-- the context under the newest
next_at : (c : After-index) → IsHeldAt c.index.result.now (c.len-count.result - 2) c.args.core.now.contexts.items
next_at c =
    let items = c.args.core.now.contexts.items in
    let lt : c.len-count.result - 2 < length items = omega (arith, c.len-count.ensures, c.args.core.now.contexts.ok.0, c.if-count-lt2.false) in
    (lt, λ d. sym (get_or_read items (c.len-count.result - 2) c.index.result.now lt c.index.ensures d))

pub returns-then-count-lt2-clause-moves : goal.returns-then-count-lt2-clause-moves
returns-then-count-lt2-clause-moves c =
    let core = c.args.core.now in
    let top = length core.contexts.items - 1 in
    let t : PeState = kept_of (record { contexts = top; frames = c.args.held.frames; load = c.args.held.base }) (state_of core) in
    c.stay.ensures.moves ∙ sym (under_none (assignment_meets (element c.args.i) c.args.name.number) top core.contexts.items (state_of core) t refl (omega (arith, c.len-count.ensures, core.contexts.ok.0, c.if-count-lt2.true)))

pub returns-in-Store-clause-moves : goal.returns-in-Store-clause-moves
returns-in-Store-clause-moves c =
    let core = c.args.core.now in
    let items = core.contexts.items in
    let next : Held = c.index.result.now in
    let place = c.len-count.result - 2 in
    let meets : PeContext → PeState → PeMove = assignment_meets (element c.args.i) c.args.name.number in
    let above : length items - 1 ≡ place + 1 = omega (arith, c.len-count.ensures, core.contexts.ok.0, c.if-count-lt2.false) in
    let t : PeState = kept_of (record { contexts = place; frames = c.args.held.frames; load = c.args.held.base }) (state_of core) in
    sym (taken_under meets next place (length items - 1) c.args.held.frames c.args.held.base items (state_of core) refl (next_at (goal.at.returns-in-Store-clause-moves c).After-index) above
    ∙ ap (λ (k : Context). meets (context_of k) t) c.in-Store.is
    ∙ c.requires.there c.in-Store.v t refl)

pub returns-in-Store-clause-fair : goal.returns-in-Store-clause-fair
returns-in-Store-clause-fair c =
    let core = c.args.core.now in
    let top = length core.contexts.items - 1 in
    fair_under core.limit (state_of core) (c.len-count.result - 2) top c.args.held.frames c.args.held.base (omega (arith, c.len-count.ensures, core.contexts.ok.0)) (fair_at core.limit top c.args.held core.contexts.items (state_of core) refl core.based c.requires.held)

pub returns-in_default-clause-moves : goal.returns-in_default-clause-moves
returns-in_default-clause-moves c =
    let core = c.args.core.now in
    let items = core.contexts.items in
    let next : Held = c.index.result.now in
    let place = c.len-count.result - 2 in
    let meets : PeContext → PeState → PeMove = assignment_meets (element c.args.i) c.args.name.number in
    let above : length items - 1 ≡ place + 1 = omega (arith, c.len-count.ensures, core.contexts.ok.0, c.if-count-lt2.false) in
    let t : PeState = kept_of (record { contexts = place; frames = c.args.held.frames; load = c.args.held.base }) (state_of core) in
    c.stay-in_default.ensures.moves
    ∙ sym (taken_under meets next place (length items - 1) c.args.held.frames c.args.held.base items (state_of core) refl (next_at (goal.at.returns-in_default-clause-moves c).After-index) above
    ∙ no_store (element c.args.i) c.args.name.number next.context t c.in_default.not-Store)
