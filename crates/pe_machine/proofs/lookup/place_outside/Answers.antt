use Rattle.std.proofs.Common.{◌≡◌, ℕ, ◌-◌, [], take, Some, sym, ap, ◌∙◌, subst, arith}
use Rattle.std.specs.declared.option.Option.{Option}
use Rattle.pe_machine.specs.States.{frame_outside}
use Rattle.pe_machine.specs.Shown.{frame_of, frames_onto, number_of}
use Rattle.pe_machine.specs.Names.{IsPlacedLink}
use Rattle.pe_machine.specs.Places.{IsOutside}
use Rattle.pe_machine.specs.Turns.{frames_of}
use Rattle.pe_machine.specs.declared.frames.FrameName.{FrameName}
use Rattle.pe_machine.proofs.FrameLemmas.{outside_by_none, outside_by_place, outside_last, outside_none, outside_same, next_link}
use Rattle.pe_machine.proofs.NameLemmas.{frame_at}
use Rattle.pe_machine.proofs.lookup.place_outside.Goals as goal

pub returns-in_err-name : goal.returns-in_err-name
returns-in_err-name c =
    let fs = frames_onto c.args.core.now.cells.items [] c.args.core.now.frames.items in
    let P : Option ℕ → Type 0 = λ o. IsOutside c.args.core.now.cells.items c.args.core.now.frames.items c.args.links c.args.frame o in
    subst P (sym c.from_residual.ensures) (ap (λ (r : Option FrameName). frame_outside fs c.args.links (number_of r)) c.in_err-name.was ∙ outside_none c.args.links fs)

pub returns-in_err-end : goal.returns-in_err-end
returns-in_err-end c =
    let items = c.args.core.now.frames.items in
    let P : Option ℕ → Type 0 = λ o. IsOutside c.args.core.now.cells.items items c.args.links c.args.frame o in
    subst P (sym c.from_residual-in_err-end.ensures)
    (c.loop-left.invariant.outside
    ∙ outside_by_none c.args.core.now.cells.items c.loop-left.left c.loop-left.name.number c.loop-left.end items c.loop-left.invariant.end c.in_err-end.ensures)

pub returns-in_err-name-2 : goal.returns-in_err-name-2
returns-in_err-name-2 c =
    let core = c.args.core.now in
    let items = core.frames.items in
    let x = c.index.result.now in
    let rest = frames_onto c.args.core.now.cells.items [] (take c.in_ok-end.end items) in
    let P : Option ℕ → Type 0 = λ o. IsOutside c.args.core.now.cells.items items c.args.links c.args.frame o in
    subst P (sym c.from_residual-in_err-name-2.ensures)
    (c.loop-left.invariant.outside
    ∙ outside_by_place c.args.core.now.cells.items c.loop-left.left c.loop-left.name.number core.next c.loop-left.end c.in_ok-end.end items x c.loop-left.invariant.end core.numbered c.in_ok-end.ensures c.index.ensures
    ∙ next_link c.loop-left.left (frame_of c.args.core.now.cells.items x) (λ j. frame_outside rest j (number_of x.around)) c.loop-left-test.true
    ∙ ap (λ (r : Option FrameName). frame_outside rest (c.loop-left.left - 1) (number_of r)) c.in_err-name-2.was
    ∙ outside_none (c.loop-left.left - 1) rest)

pub loop-left-preserved : goal.loop-left-preserved
loop-left-preserved c =
    let core = c.args.core.now in
    let items = core.frames.items in
    let x = c.index.result.now in
    let rest = frames_onto c.args.core.now.cells.items [] (take c.in_ok-end.end items) in
    let end = c.loop-left.invariant.end in
    let below = c.in_ok-end.ensures.0 in
    let P : Option FrameName → Type 0 = λ r. IsPlacedLink (frames_of core) r in
    record {
      end = omega arith;
      placed = subst P c.in_ok-name-2.was (frame_at c.in_ok-end.end x (frames_of core) core.frames_placed (omega arith) c.index.ensures).1;
      outside =
          c.loop-left.invariant.outside
          ∙ outside_by_place c.args.core.now.cells.items c.loop-left.left c.loop-left.name.number core.next c.loop-left.end c.in_ok-end.end items x c.loop-left.invariant.end core.numbered c.in_ok-end.ensures c.index.ensures
          ∙ next_link c.loop-left.left (frame_of c.args.core.now.cells.items x) (λ j. frame_outside rest j (number_of x.around)) c.loop-left-test.true
          ∙ ap (λ (r : Option FrameName). frame_outside rest (c.loop-left.left - 1) (number_of r)) c.in_ok-name-2.was;
    }

pub returns : goal.returns
returns c =
    let core = c.args.core.now in
    let items = core.frames.items in
    let none : c.loop-left.left ≡ 0 = omega arith in
    let same = c.loop-left.invariant.outside ∙ ap (λ (k : ℕ). frame_outside (frames_onto c.args.core.now.cells.items [] (take c.loop-left.end items)) k (Some c.loop-left.name.number)) none in
    outside_same c.args.core.now.cells.items _ _ c.place_of-2.result items same
    (outside_last c.args.core.now.cells.items c.loop-left.name.number core.next c.loop-left.end items c.place_of-2.result c.loop-left.invariant.end core.numbered c.place_of-2.ensures)
