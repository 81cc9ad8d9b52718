use Rattle.std.proofs.Common.{◌≡◌, ℕ, ◌-◌, ◌<◌, length, take, drop, Some, sym, ap, ◌∙◌, arith, Bool}
use Rattle.std.proofs.lemmas.List.{length-take-le, length-drop}
use Rattle.std.specs.declared.option.Option.{Option}
use Rattle.fy_base.specs.declared.data.Datum.{Datum}
use Rattle.fy_phrase.specs.Copy.{element}
use Rattle.pe_machine.specs.States.{PeState, Sequence, element_in, oldest}
use Rattle.pe_machine.specs.Step.{cell_entered, loaded}
use Rattle.pe_machine.specs.Turns.{frames_of, state_of, kept_of}
use Rattle.pe_machine.specs.declared.turns.Kept.{Kept}
use Rattle.pe_machine.proofs.CellLemmas.{part_get}
use Rattle.pe_machine.proofs.PlanLemmas.{element_there}
use Rattle.pe_machine.proofs.sequences.pick_cell.Goals as goal

pub write_cell-requires-clause-there : goal.write_cell-requires-clause-there
write_cell-requires-clause-there c =
    let core = c.args.core.now in
    let x = c.args.extent in
    let cells : Sequence = record { place = x.place; values = take x.count (drop x.start core.cells.items) } in
    let inside = c.requires.inside in
    let rest = length-drop x.start core.cells.items in
    let many : length cells.values ≡ x.count = length-take-le x.count (drop x.start core.cells.items) (omega (arith, inside, rest)) in
    let lt : c.args.i < length cells.values = omega (arith, many, c.requires.fewer) in
    λ v s same. element_there c.args.i c.args.name.number v cells (oldest c.args.held.frames (state_of core).frames) s c.requires.extent lt same

pub returns-then-is_written-clause-moves : goal.returns-then-is_written-clause-moves
returns-then-is_written-clause-moves c =
    let core = c.args.core.now in
    let s : PeState = kept_of (record { contexts = length core.contexts.items - 1; frames = c.args.held.frames; load = c.args.held.base }) (state_of core) in
    c.write_cell.ensures.moves ∙ sym (ap (λ (b : Bool). cell_entered b (element c.args.i) c.args.name.number s) c.if-is_written.true)

pub returns-clause-moves : goal.returns-clause-moves
returns-clause-moves c =
    let core = c.args.core.now in
    let items = core.contexts.items in
    let kept : Kept = record { contexts = length items - 1; frames = c.args.held.frames; load = c.args.held.base } in
    let s : PeState = kept_of kept (state_of core) in
    let v : Datum = c.index-v.result.now in
    let x = c.args.extent in
    let e : c.len.result - 1 ≡ length items - 1 = omega (arith, c.len.ensures, core.contexts.ok.0) in
    let same : c.kept_before.result ≡ kept = c.kept_before.ensures.kept ∙ ap (λ (k : ℕ). record { contexts = k; frames = c.args.held.frames; load = c.args.held.base }) e in
    let there = part_get x.start x.count c.args.i v core.cells.items c.requires.fewer c.requires.inside c.index-v.ensures in
    c.give_value.ensures.moves (kept_of c.kept_before.result (state_of core))
    ∙ ap (λ (k : Kept). loaded (Some v) (kept_of k (state_of core))) same
    ∙ ap (λ (o : Option Datum). loaded o s) (sym (ap (λ (q : Option Sequence). element_in c.args.i q) c.requires.extent ∙ there))
    ∙ sym (ap (λ (b : Bool). cell_entered b (element c.args.i) c.args.name.number s) c.if-is_written.false)

pub returns-clause-placed : goal.returns-clause-placed
returns-clause-placed c = c.give_value.ensures.placed (frames_of c.args.core.now)
