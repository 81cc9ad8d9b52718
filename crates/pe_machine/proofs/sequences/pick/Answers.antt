use Rattle.std.proofs.Common.{◌≡◌, ◌-◌, ◌≤◌, length, take, drop, sym, ap, ◌∙◌, subst, arith}
use Rattle.std.proofs.lemmas.List.{length-take-le, length-drop}
use Rattle.std.specs.declared.option.Option.{Option}
use Rattle.pe_machine.specs.States.{PeState, Sequence, Wanted}
use Rattle.pe_machine.specs.Step.{element_picked}
use Rattle.pe_machine.specs.Turns.{state_of, kept_of}
use Rattle.pe_machine.specs.declared.contexts.Held.{Held}
use Rattle.pe_machine.proofs.Stacks.{length-frames}
use Rattle.pe_machine.proofs.ContextLemmas.{based_at}
use Rattle.pe_machine.proofs.PlanLemmas.{picked_of}
use Rattle.pe_machine.proofs.sequences.pick.Goals as goal

-- the frames of a context stand
pub extent_of-requires-clause-end : goal.extent_of-requires-clause-end
extent_of-requires-clause-end c =
    let core = c.args.core.now in
    let items = core.contexts.items in
    let place = length items - 1 in
    let based = based_at core.limit place (state_of core).frames items c.args.held core.based c.requires.held.0 in
    let stood : c.args.held.frames ≤ length (state_of core).frames = subst (λ (h : Held). h.frames ≤ length (state_of core).frames) (c.requires.held.1 c.args.held) based.stood in
    omega (arith, stood, length-frames core.cells.items core.frames.items)

pub returns-in-Some-clause-moves : goal.returns-in-Some-clause-moves
returns-in-Some-clause-moves c =
    let core = c.args.core.now in
    let x = c.in-Some.extent in
    let w : Wanted = record { is_written = c.args.is_written; number = c.args.name.number } in
    let s : PeState = kept_of (record { contexts = length core.contexts.items - 1; frames = c.args.held.frames; load = c.args.held.base }) (state_of core) in
    let cells : Sequence = record { place = x.place; values = take x.count (drop x.start core.cells.items) } in
    let inside = c.in-Some.ensures.inside in
    let rest = length-drop x.start core.cells.items in
    let many : length cells.values ≡ x.count = length-take-le x.count (drop x.start core.cells.items) (omega (arith, inside, rest)) in
    c.pick_in.ensures.moves ∙ sym (ap (λ (o : Option Sequence). element_picked c.args.v w o s) c.in-Some.ensures.extent ∙ picked_of c.args.v w cells x.count s many)

pub returns-in-None-clause-moves : goal.returns-in-None-clause-moves
returns-in-None-clause-moves c =
    let core = c.args.core.now in
    let w : Wanted = record { is_written = c.args.is_written; number = c.args.name.number } in
    let s : PeState = kept_of (record { contexts = length core.contexts.items - 1; frames = c.args.held.frames; load = c.args.held.base }) (state_of core) in
    c.stay.ensures.moves ∙ sym (ap (λ (o : Option Sequence). element_picked c.args.v w o s) c.in-None.ensures.extent)
