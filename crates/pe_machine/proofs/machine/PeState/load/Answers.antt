use Rattle.std.proofs.Common.{List, [], length, refl, subst, sym, ap}
use Rattle.fy_base.specs.declared.data.Datum.{Datum}
use Rattle.pe_machine.specs.Shown.{contexts_onto, frames_onto}
use Rattle.pe_machine.specs.Sound.{AreBased, AreLaid}
use Rattle.pe_machine.specs.declared.contexts.Held.{Held}
use Rattle.pe_machine.specs.declared.events.Phase.TheVariants as phase
use Rattle.pe_machine.specs.declared.frames.Frame.{Frame}
use Rattle.pe_machine.proofs.FillingLemmas.{going_not_waiting}
use Rattle.pe_machine.proofs.machine.PeState.load.Goals as goal

pub invariant_of-core-clause-laid : goal.invariant_of-core-clause-laid
invariant_of-core-clause-laid c =
    let cells = c.in_ok-with_capacity-3.field-0.items in
    let P : List Frame → Type 0 = λ fs. AreLaid 0 fs (length cells) in
    subst P (sym c.in_ok-with_capacity-2.ensures.items) (ap (λ (vs : List Datum). length vs) (sym c.in_ok-with_capacity-3.ensures.items))

pub invariant_of-core-clause-based : goal.invariant_of-core-clause-based
invariant_of-core-clause-based c =
    let P : List Held → Type 0 = λ hs. AreBased c.from.result (frames_onto c.in_ok-with_capacity-3.field-0.items [] c.in_ok-with_capacity-2.field-0.items) (contexts_onto [] hs) in
    subst P (sym c.in_ok-with_capacity.ensures.items) tt

pub invariant_of-result-clause-room : goal.invariant_of-result-clause-room
invariant_of-result-clause-room c waits = going_not_waiting phase.Going refl waits
