use Rattle.std.proofs.Common.{◌≡◌, ℕ, ◌+◌, [], ◌∷◌, List, length, pos, refl, sym, ap, ◌∙◌, subst, arith}
use Rattle.fy_base.specs.declared.data.Datum.TheVariants as datum_kind
use Rattle.pe_machine.specs.States as states
use Rattle.pe_machine.specs.Sound.{IsNumbered, AreBased, count_in}
use Rattle.pe_machine.specs.Shown.{frame_of, frames_onto, contexts_onto, fresh_binding, number_of}
use Rattle.pe_machine.specs.Turns.{frames_of, state_of}
use Rattle.pe_machine.specs.declared.frames.Frame.{Frame}
use Rattle.pe_machine.proofs.CellLemmas.{pushed_is, pushed_laid, fresh_is}
use Rattle.pe_machine.proofs.ContextLemmas.{based_newer}
use Rattle.pe_machine.proofs.NameLemmas.{push_focus, push_contexts, push_frames, push_new}
use Rattle.pe_machine.proofs.apply.push_frame.Goals as goal
use Rattle.pe_machine.proofs.apply.push_frame.Goals.{In-Ok}

-- the frame that is made
abbrev frame_made : In-Ok → Frame
frame_made c = record { number = c.args.core.now.next; depth = c.args.depth; binding = c.args.binding; around = c.args.around; cells = c.len-2.result }

at_end : (c : In-Ok) → (frame_made c).cells ≡ length c.args.core.now.cells.items
at_end c = omega (arith, c.len-2.ensures, c.args.core.now.cells.ok.0)

-- as many as its binding says
counted : (c : In-Ok) → c.count_in-count.result ≡ count_in c.args.binding
counted c = c.count_in-count.ensures

made_is : (c : In-Ok) → frames_onto c.add_cells.new.cells.items [] c.push.new.self.items ≡ frame_of c.add_cells.new.cells.items (frame_made c) ∷ frames_onto c.args.core.now.cells.items [] c.args.core.now.frames.items
made_is c =
    let core = c.args.core.now in
    pushed_is core.cells.items c.add_cells.new.cells.items (datum_kind.Int (pos 0)) core.frames.items c.push.new.self.items (frame_made c) (rw (counted c) at c.add_cells.ensures.items) c.in-Ok.ensures.items core.laid

pub invariant_of-core-clause-numbered : goal.invariant_of-core-clause-numbered
invariant_of-core-clause-numbered c =
    let core = c.args.core.now in
    subst (λ (fs : List states.Frame). IsNumbered (core.next + 1) fs) (sym (made_is (goal.at.invariant_of-core-clause-numbered c).In-Ok)) (omega arith, core.numbered)

pub invariant_of-core-clause-laid : goal.invariant_of-core-clause-laid
invariant_of-core-clause-laid c =
    let core = c.args.core.now in
    let at = (goal.at.invariant_of-core-clause-laid c).In-Ok in
    pushed_laid core.cells.items _ (datum_kind.Int (pos 0)) core.frames.items _ (frame_made at) (rw (counted at) at c.add_cells.ensures.items) c.in-Ok.ensures.items (at_end at) core.laid

pub invariant_of-core-clause-based : goal.invariant_of-core-clause-based
invariant_of-core-clause-based c =
    let core = c.args.core.now in
    let at = (goal.at.invariant_of-core-clause-based c).In-Ok in
    subst (λ (fs : List states.Frame). AreBased core.limit fs (contexts_onto [] core.contexts.items)) (sym (made_is at))
    (based_newer core.limit (frame_of c.add_cells.new.cells.items (frame_made at)) (frames_onto core.cells.items [] core.frames.items) (contexts_onto [] core.contexts.items) core.based)

pub invariant_of-core-clause-focus_placed : goal.invariant_of-core-clause-focus_placed
invariant_of-core-clause-focus_placed c =
    let core = c.args.core.now in
    push_focus _ (frames_of core) _ c.in-Ok.ensures.items refl core.focus core.focus_placed

pub invariant_of-core-clause-contexts_placed : goal.invariant_of-core-clause-contexts_placed
invariant_of-core-clause-contexts_placed c =
    let core = c.args.core.now in
    push_contexts _ (frames_of core) _ c.in-Ok.ensures.items refl core.contexts.items core.contexts_placed

pub invariant_of-core-clause-frames_placed : goal.invariant_of-core-clause-frames_placed
invariant_of-core-clause-frames_placed c =
    let core = c.args.core.now in
    push_frames _ (frames_of core) _ c.in-Ok.ensures.items refl core.frames_placed (c.requires.binding, c.requires.around)

pub returns-clause-state : goal.returns-clause-state
returns-clause-state c =
    let core = c.args.core.now in
    let at = (goal.at.returns-clause-state c).In-Ok in
    let x : Frame = frame_made at in
    let load : core.load + (c.from.result + 8 + c.from-2.result) ≡ (count_in c.args.binding + core.load) + (8 + c.args.depth) = omega (arith, counted at) in
    ap (λ (fs : List states.Frame). record (state_of core) { frames = fs; next = core.next + 1; load = core.load + (c.from.result + 8 + c.from-2.result) }) (made_is at)
    ∙ ap (λ (b : states.Binding). record (state_of core) {
      frames = (record { number = x.number; depth = x.depth; binding = b; around = number_of x.around }) ∷ (state_of core).frames;
      next = core.next + 1;
      load = core.load + (c.from.result + 8 + c.from-2.result);
    }) (fresh_is core.cells.items c.add_cells.new.cells.items x (rw (counted at) at c.add_cells.ensures.items) (at_end at))
    ∙ ap (λ (k : ℕ). record (state_of core) {
      frames = (record { number = x.number; depth = x.depth; binding = fresh_binding x.binding; around = number_of x.around }) ∷ (state_of core).frames;
      next = core.next + 1;
      load = k;
    }) load

pub returns-clause-placed : goal.returns-clause-placed
returns-clause-placed c =
    let core = c.args.core.now in
    push_new _ (frames_of core) _ c.in-Ok.ensures.items refl core.cells.items (record { place = c.len.result; number = core.next }) core.numbered refl (omega (arith, c.len.ensures, core.frames.ok.0))
