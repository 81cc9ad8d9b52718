use Rattle.std.proofs.Common.{◌≡◌, ℕ, ◌+◌, refl, sym, ap, ◌∙◌, arith}
use Rattle.pe_machine.specs.States.{PeState, Binding, to_thunk, to_cell, to_escape}
use Rattle.pe_machine.specs.Step.{PeMove, bound}
use Rattle.pe_machine.specs.Shown.{number_of, thunk_of}
use Rattle.pe_machine.specs.Turns.{state_of}
use Rattle.pe_machine.specs.declared.core_state.Core.{Core}
use Rattle.pe_machine.specs.declared.contexts.Pointer.{Pointer}
use Rattle.pe_machine.proofs.apply.make.Goals as goal

-- a frame without cells
frame_alone : (d : ℕ) (b : Binding) (p : Pointer) (s : PeState) (core : Core) (m : PeMove) → state_of core ≡ s → bound d b p.address (number_of p.frame) (record (state_of core) { load = 0 + core.load }) ≡ m → bound d b p.address (number_of p.frame) s ≡ m
frame_alone d b p s core m is made =
    let same : core.load ≡ 0 + core.load = omega arith in
    ap (λ (t : PeState). bound d b p.address (number_of p.frame) t) (sym is) ∙ ap (λ (k : ℕ). bound d b p.address (number_of p.frame) (record (state_of core) { load = k })) same ∙ made

pub returns-in-Bind-clause-state : goal.returns-in-Bind-clause-state
returns-in-Bind-clause-state c = rw c.in-Bind.is (frame_alone c.in-Bind.depth (to_thunk (thunk_of c.in-Bind.thunk)) c.in-Bind.body (state_of c.args.core.now) c.args.core.now _ refl c.enter_body.ensures.state)

pub returns-in-NewCell-clause-state : goal.returns-in-NewCell-clause-state
returns-in-NewCell-clause-state c =
    rw c.in-NewCell.is (frame_alone c.in-NewCell.depth (to_cell c.in-NewCell.v) c.in-NewCell.body _ c.push_context-in-NewCell.new.core _ c.push_context-in-NewCell.ensures.state c.enter_body-in-NewCell.ensures.state)

pub returns-in-NewEscape-clause-state : goal.returns-in-NewEscape-clause-state
returns-in-NewEscape-clause-state c =
    rw c.in-NewEscape.is (frame_alone c.in-NewEscape.depth to_escape c.in-NewEscape.body _ c.push_context-in-NewEscape.new.core _ c.push_context-in-NewEscape.ensures.state c.enter_body-in-NewEscape.ensures.state)
