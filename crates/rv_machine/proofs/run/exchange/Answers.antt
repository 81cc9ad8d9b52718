use Rattle.std.proofs.Common.{refl}
use Rattle.fy_base.specs.declared.data.Ending.TheVariants as ends
use Rattle.rv_insn.specs.declared.events.Event.TheVariants as events
use Rattle.rv_machine.proofs.Exchanges.{step_as, turned_going, turned_over, turned_put, turned_unput, turned_unread}
use Rattle.rv_machine.proofs.run.exchange.Goals as goal

pub returns-in-Going-clause-did : goal.returns-in-Going-clause-did
returns-in-Going-clause-did g c = λ last step. turned_going _ _ _ _ _ _ c.requires.at_end (step_as _ _ _ _ _ c.in-Going.is step)

pub returns-in-Ok-clause-did : goal.returns-in-Ok-clause-did
returns-in-Ok-clause-did g c = λ last step. turned_put c.in-Put.byte _ _ _ _ _ _ _ c.requires.at_end (step_as _ _ _ _ _ c.in-Put.is step) c.in-Ok.ensures.gained

pub returns-in-Err-clause-did : goal.returns-in-Err-clause-did
returns-in-Err-clause-did g c = λ last step. turned_unput c.in-Put.byte _ _ _ _ _ _ _ c.requires.at_end (step_as _ _ _ _ _ c.in-Put.is step) c.in-Err.ensures.part

pub returns-in-Err-next_byte-clause-did : goal.returns-in-Err-next_byte-clause-did
returns-in-Err-next_byte-clause-did g c = λ last step.
    turned_unread _ _ _ _ _ _ _ _ c.requires.at_end (step_as _ _ _ _ _ c.in-WantByte.is step) c.in-Err-next_byte.ensures.none c.in-Err-next_byte.ensures.stays

pub returns-in-Ended-clause-did : goal.returns-in-Ended-clause-did
returns-in-Ended-clause-did g c = λ last step.
    turned_over ends.Ended events.Ended _ _ _ _ _ _ c.requires.at_end (step_as _ _ _ _ _ c.in-Ended.is step) (λ world. refl) (λ world input before came. came)

pub returns-in-Fault-clause-did : goal.returns-in-Fault-clause-did
returns-in-Fault-clause-did g c = λ last step.
    turned_over (ends.Fault c.in-Fault.kind c.in-Fault.place) (events.Fault c.in-Fault.kind c.in-Fault.place) _ _ _ _ _ _ c.requires.at_end (step_as _ _ _ _ _ c.in-Fault.is step)
    (λ world. refl) (λ world input before came. came)

pub returns-in-Exhausted-clause-did : goal.returns-in-Exhausted-clause-did
returns-in-Exhausted-clause-did g c = λ last step.
    turned_over ends.Exhausted events.Exhausted _ _ _ _ _ _ c.requires.at_end (step_as _ _ _ _ _ c.in-Exhausted.is step) (λ world. refl) (λ world input before came. came)

pub returns-in-Trap-clause-did : goal.returns-in-Trap-clause-did
returns-in-Trap-clause-did g c = λ last step.
    turned_over (ends.Trap c.in-Trap.kind) (events.Trap c.in-Trap.kind) _ _ _ _ _ _ c.requires.at_end (step_as _ _ _ _ _ c.in-Trap.is step) (λ world. refl) (λ world input before came. came)
