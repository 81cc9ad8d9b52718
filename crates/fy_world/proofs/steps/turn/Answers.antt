use Rattle.std.proofs.Common.{refl, Some, None}
use Rattle.fy_base.specs.declared.data.Ending.TheVariants as ends
use Rattle.pe_machine.specs.Step.{faults, sticks, loses}
use Rattle.pe_machine.specs.Seen.{seen}
use Rattle.pe_machine.proofs.Ending.{went_further}
use Rattle.fy_world.proofs.StepLines.{turned_told, turned_put, turned_take, turned_none, went_so, faulted_so, stuck_so, lost_so, over_so, refused_so, went_made, halts_made, stopped_told, stopped_put, stopped_take}
use Rattle.fy_world.proofs.steps.turn.Goals as goal

pub returns-in-Going-clause-turned : goal.returns-in-Going-clause-turned
returns-in-Going-clause-turned g c =
    turned_told c.end_told.result None c.args.code.now c.args.names.now (seen c.args.state.now) (seen c.step.new.self) c.args.over.now _ (g.W.World.holds c.end_told.new.world) c.address-address.result c.address-address.ensures
    (went_so c.args.code.now _ _ c.in-Going.ensures) (λ _. went_further _ _ _ _ c.in-Going.ensures) (λ notes line. refl) c.end_told.ensures.end c.end_told.ensures.told

pub returns-in-Going-clause-stopped : goal.returns-in-Going-clause-stopped
returns-in-Going-clause-stopped g c =
    stopped_told c.end_told.result c.args.code.now c.args.names.now (seen c.args.state.now) _ (g.W.World.holds c.end_told.new.world) c.address-address.result c.address-address.ensures (went_made c.args.code.now _ _ c.in-Going.ensures) c.end_told.ensures.part
    c.end_told.ensures.stop c.end_told.ensures.unput

pub returns-in-Put-clause-turned : goal.returns-in-Put-clause-turned
returns-in-Put-clause-turned g c =
    turned_put c.put_told.result c.args.code.now c.args.names.now (seen c.args.state.now) (seen c.step.new.self) c.args.over.now _ (g.W.World.holds c.put_told.new.world) c.address-address.result c.in-Put.kind c.in-Put.value c.address-address.ensures
    c.in-Put.ensures c.put_told.ensures.end c.put_told.ensures.put

pub returns-in-Put-clause-stopped : goal.returns-in-Put-clause-stopped
returns-in-Put-clause-stopped g c =
    stopped_put c.put_told.result c.args.code.now c.args.names.now (seen c.args.state.now) (seen c.step.new.self) _ (g.W.World.holds c.put_told.new.world) c.address-address.result c.in-Put.kind c.in-Put.value c.address-address.ensures
    c.in-Put.ensures c.put_told.ensures.part c.put_told.ensures.stop

pub returns-in-Ok-clause-turned : goal.returns-in-Ok-clause-turned
returns-in-Ok-clause-turned g c =
    turned_take c.in-Ok.byte c.args.code.now c.args.names.now (seen c.args.state.now) (seen c.step.new.self) (seen c.give.new.self) c.args.over.now c.take_told.new.over _ (g.W.World.holds c.take_told.new.world) c.address-address.result c.address-address.ensures
    c.in-WantByte.ensures c.give.ensures c.in-Ok.ensures.drew c.in-Ok.ensures.over c.in-Ok.ensures.told

pub returns-in-Err-clause-stopped : goal.returns-in-Err-clause-stopped
returns-in-Err-clause-stopped g c =
    stopped_take c.args.code.now c.args.names.now (seen c.args.state.now) (seen c.step.new.self) _ (g.W.World.holds c.take_told.new.world) c.in-Err.stop c.address-address.result c.address-address.ensures c.in-WantByte.ensures c.in-Err.ensures.part c.in-Err.ensures.unput

pub returns-in-Ended-clause-turned : goal.returns-in-Ended-clause-turned
returns-in-Ended-clause-turned g c = turned_none ends.Ended c.args.code.now c.args.names.now (seen c.args.state.now) (seen c.step.new.self) c.args.over.now _ (over_so c.args.code.now _ _ c.in-Ended.ensures) refl

pub returns-in-Exhausted-clause-turned : goal.returns-in-Exhausted-clause-turned
returns-in-Exhausted-clause-turned g c = turned_none ends.Exhausted c.args.code.now c.args.names.now (seen c.args.state.now) (seen c.step.new.self) c.args.over.now _ (refused_so c.args.code.now _ _ c.in-Exhausted.ensures) refl

pub returns-in-Fault-clause-turned : goal.returns-in-Fault-clause-turned
returns-in-Fault-clause-turned g c =
    turned_told c.end_told-in-Fault.result (Some (ends.Fault c.in-Fault.kind c.in-Fault.place)) c.args.code.now c.args.names.now (seen c.args.state.now) (seen c.step.new.self) c.args.over.now _ (g.W.World.holds c.end_told-in-Fault.new.world) c.address-address.result
    c.address-address.ensures (faulted_so c.args.code.now _ _ c.in-Fault.kind c.in-Fault.place c.in-Fault.ensures) (λ clash. cc) (λ notes line. refl) c.end_told-in-Fault.ensures.end c.end_told-in-Fault.ensures.told

pub returns-in-Fault-clause-stopped : goal.returns-in-Fault-clause-stopped
returns-in-Fault-clause-stopped g c =
    stopped_told c.end_told-in-Fault.result c.args.code.now c.args.names.now (seen c.args.state.now) _ (g.W.World.holds c.end_told-in-Fault.new.world) c.address-address.result c.address-address.ensures
    (halts_made c.args.code.now _ (seen c.step.new.self) (faults c.in-Fault.kind c.in-Fault.place) refl c.in-Fault.ensures) c.end_told-in-Fault.ensures.part c.end_told-in-Fault.ensures.stop c.end_told-in-Fault.ensures.unput

pub returns-in-Gone-clause-turned : goal.returns-in-Gone-clause-turned
returns-in-Gone-clause-turned g c =
    turned_told c.end_told-in-Gone.result (Some ends.Gone) c.args.code.now c.args.names.now (seen c.args.state.now) (seen c.step.new.self) c.args.over.now _ (g.W.World.holds c.end_told-in-Gone.new.world) c.address-address.result c.address-address.ensures
    (lost_so c.args.code.now _ _ c.in-Gone.ensures) (λ clash. cc) (λ notes line. refl) c.end_told-in-Gone.ensures.end c.end_told-in-Gone.ensures.told

pub returns-in-Gone-clause-stopped : goal.returns-in-Gone-clause-stopped
returns-in-Gone-clause-stopped g c =
    stopped_told c.end_told-in-Gone.result c.args.code.now c.args.names.now (seen c.args.state.now) _ (g.W.World.holds c.end_told-in-Gone.new.world) c.address-address.result c.address-address.ensures
    (halts_made c.args.code.now _ (seen c.step.new.self) loses refl c.in-Gone.ensures) c.end_told-in-Gone.ensures.part c.end_told-in-Gone.ensures.stop c.end_told-in-Gone.ensures.unput

pub returns-in-Stuck-clause-turned : goal.returns-in-Stuck-clause-turned
returns-in-Stuck-clause-turned g c =
    turned_told c.end_told-in-Stuck.result (Some ends.Stuck) c.args.code.now c.args.names.now (seen c.args.state.now) (seen c.step.new.self) c.args.over.now _ (g.W.World.holds c.end_told-in-Stuck.new.world) c.address-address.result c.address-address.ensures
    (stuck_so c.args.code.now _ _ c.in-Stuck.ensures) (λ clash. cc) (λ notes line. refl) c.end_told-in-Stuck.ensures.end c.end_told-in-Stuck.ensures.told

pub returns-in-Stuck-clause-stopped : goal.returns-in-Stuck-clause-stopped
returns-in-Stuck-clause-stopped g c =
    stopped_told c.end_told-in-Stuck.result c.args.code.now c.args.names.now (seen c.args.state.now) _ (g.W.World.holds c.end_told-in-Stuck.new.world) c.address-address.result c.address-address.ensures
    (halts_made c.args.code.now _ (seen c.step.new.self) sticks refl c.in-Stuck.ensures) c.end_told-in-Stuck.ensures.part c.end_told-in-Stuck.ensures.stop c.end_told-in-Stuck.ensures.unput
