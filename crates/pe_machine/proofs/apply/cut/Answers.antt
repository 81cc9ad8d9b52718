use Rattle.std.proofs.Common.{◌≡◌, [], List, length, sym, ap, ◌∙◌, subst, subst₂, arith}
use Rattle.pe_machine.specs.States as states
use Rattle.pe_machine.specs.States.{PeState, oldest}
use Rattle.pe_machine.specs.Shown.{frames_onto, contexts_onto}
use Rattle.pe_machine.specs.Sound.{IsNumbered, AreBased, cells_in}
use Rattle.pe_machine.specs.Turns.{frames_of, state_of, oldest_contexts}
use Rattle.pe_machine.proofs.Stacks.{contexts_take}
use Rattle.pe_machine.proofs.FrameLemmas.{numbered_oldest}
use Rattle.pe_machine.proofs.CellLemmas.{cut_is, cut_laid, cells_counted}
use Rattle.pe_machine.proofs.NameLemmas.{cut_focus, cut_contexts, cut_frames}
use Rattle.pe_machine.proofs.apply.cut.Goals as goal
use Rattle.pe_machine.proofs.apply.cut.Goals.{After-truncate-3}

-- the frames and the cells that are left
frames_left : (c : After-truncate-3) → frames_onto c.truncate-3.new.self.items [] c.truncate-2.new.self.items ≡ oldest c.args.kept.frames (frames_onto c.args.core.now.cells.items [] c.args.core.now.frames.items)
frames_left c =
    let core = c.args.core.now in
    cut_is core.cells.items c.truncate-3.new.self.items c.args.kept.frames c.cells_before-cells.result core.frames.items c.truncate-2.new.self.items c.truncate-3.ensures.items c.truncate-2.ensures.items c.cells_before-cells.ensures.laid

contexts_left : (c : After-truncate-3) → contexts_onto [] c.truncate.new.self.items ≡ oldest_contexts c.args.kept.contexts (contexts_onto [] c.args.core.now.contexts.items)
contexts_left c = ap (contexts_onto []) c.truncate.ensures.items ∙ sym (contexts_take c.args.kept.contexts c.args.core.now.contexts.items)

pub invariant_of-core-clause-numbered : goal.invariant_of-core-clause-numbered
invariant_of-core-clause-numbered c =
    let core = c.args.core.now in
    subst (λ (fs : List states.Frame). IsNumbered core.next fs) (sym (frames_left (goal.at.invariant_of-core-clause-numbered c).After-truncate-3))
    (numbered_oldest core.next c.args.kept.frames (frames_onto core.cells.items [] core.frames.items) core.numbered)

pub invariant_of-core-clause-laid : goal.invariant_of-core-clause-laid
invariant_of-core-clause-laid c =
    let core = c.args.core.now in
    cut_laid core.cells.items _ c.args.kept.frames c.cells_before-cells.result core.frames.items _ c.truncate-3.ensures.items c.truncate-2.ensures.items c.cells_before-cells.ensures.laid c.cells_before-cells.ensures.within

pub invariant_of-core-clause-based : goal.invariant_of-core-clause-based
invariant_of-core-clause-based c =
    let core = c.args.core.now in
    let at = (goal.at.invariant_of-core-clause-based c).After-truncate-3 in
    subst₂ (λ (fs : List states.Frame) (cs : List states.Held). AreBased core.limit fs cs) (sym (frames_left at)) (sym (contexts_left at)) c.requires.based

pub invariant_of-core-clause-cells_counted : goal.invariant_of-core-clause-cells_counted
invariant_of-core-clause-cells_counted c =
    let core = c.args.core.now in
    let at = (goal.at.invariant_of-core-clause-cells_counted c).After-truncate-3 in
    let laid = cut_laid core.cells.items c.truncate-3.new.self.items c.args.kept.frames c.cells_before-cells.result core.frames.items c.truncate-2.new.self.items c.truncate-3.ensures.items c.truncate-2.ensures.items c.cells_before-cells.ensures.laid c.cells_before-cells.ensures.within in
    let all = cells_counted c.truncate-3.new.self.items c.truncate-2.new.self.items (length c.truncate-3.new.self.items) laid (omega arith) in
    let left = ap (λ (fs : List states.Frame). cells_in fs) (frames_left at) in
    omega (arith, all, left, c.requires.cells, c.truncate-3.new.self.ok.0)

pub invariant_of-core-clause-focus_placed : goal.invariant_of-core-clause-focus_placed
invariant_of-core-clause-focus_placed c =
    let core = c.args.core.now in
    cut_focus c.args.kept.frames (frames_of core) _ c.truncate-2.ensures.items core.focus core.focus_placed

pub invariant_of-core-clause-contexts_placed : goal.invariant_of-core-clause-contexts_placed
invariant_of-core-clause-contexts_placed c =
    let core = c.args.core.now in
    cut_contexts c.args.kept.frames (frames_of core) _ c.truncate-2.ensures.items c.args.kept.contexts core.contexts.items _ c.truncate.ensures.items core.contexts_placed

pub invariant_of-core-clause-frames_placed : goal.invariant_of-core-clause-frames_placed
invariant_of-core-clause-frames_placed c = cut_frames c.args.kept.frames (frames_of c.args.core.now) _ c.truncate-2.ensures.items c.args.core.now.frames_placed

pub returns-clause-state : goal.returns-clause-state
returns-clause-state c =
    let core = c.args.core.now in
    let at = (goal.at.returns-clause-state c).After-truncate-3 in
    ap (λ (fs : List states.Frame). record (state_of core) { contexts = contexts_onto [] c.truncate.new.self.items; frames = fs; load = c.args.kept.load }) (frames_left at)
    ∙ ap (λ (cs : List states.Held). record (state_of core) { contexts = cs; frames = oldest c.args.kept.frames (state_of core).frames; load = c.args.kept.load }) (contexts_left at)
