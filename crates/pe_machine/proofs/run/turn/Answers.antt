use Rattle.std.proofs.Common.{◌≡◌, Bool, Some, refl, sym, ap, ◌∙◌, subst}
use Rattle.std.specs.declared.option.Option.{Option}
use Rattle.fy_base.specs.Outside.{Bytes, Gained, GainedPart}
use Rattle.fy_runs.specs.Exchange.{Outer, went, wrote, took, stopped, was_over, refused_by, unread_by, unwritten_by}
use Rattle.pe_machine.specs.Step.{faults, sticks, loses}
use Rattle.pe_machine.specs.Run.{ended, faulted, stuck, gone}
use Rattle.pe_machine.specs.Seen.{Seen, given, seen}
use Rattle.pe_machine.proofs.Ending.{wrote_text, halts_by, went_by, put_by, waits_by, went_further, took_further}
use Rattle.pe_machine.proofs.run.turn.Goals as goal

abbrev outer_with : Option Bytes → Bool → Option Bytes → Outer
outer_with left over held = record { left = left; over = over; held = held }

same_outer : (k l : Option Bytes) (a b : Bool) (held : Option Bytes) → k ≡ l → a ≡ b → outer_with k a held ≡ outer_with l b held
same_outer k l a b held left over = ap (λ (x : Option Bytes). outer_with x a held) left ∙ ap (λ (x : Bool). outer_with l x held) over

told_text : {o p : Option Bytes} {text : Bytes} → o ≡ Some text → o ≡ p → p ≡ Some text
told_text is same = sym same ∙ is

pub returns-in-Going-clause-did : goal.returns-in-Going-clause-did
returns-in-Going-clause-did g c = went (went_by c.args.code.now _ _ c.in-Going.ensures) refl

pub returns-in-Going-clause-further : goal.returns-in-Going-clause-further
returns-in-Going-clause-further g c = λ _. went_further _ _ _ _ c.in-Going.ensures

pub returns-in-Ok-clause-did : goal.returns-in-Ok-clause-did
returns-in-Ok-clause-did g c =
    let P : Bytes → Type 0 = λ b. Gained (g.O.Sink.held c.args.output.now) (g.O.Sink.held c.put.new.self) b in
    wrote c.in-Some.text (put_by c.args.code.now _ _ c.in-Some.text (wrote_text c.in-Put.kind c.in-Put.v _ _ _ c.in-Some.text c.in-Put.ensures (told_text c.in-Some.is c.in_ok-text-in-Put.ensures))) refl refl (subst P c.as_slice.ensures c.in-Ok.ensures.gained)

pub returns-in-Ok-clause-further : goal.returns-in-Ok-clause-further
returns-in-Ok-clause-further g c = λ _. went_further _ _ _ _ c.in-Put.ensures.went

pub returns-in-Some-clause-did : goal.returns-in-Some-clause-did
returns-in-Some-clause-did g c =
    let P : Bytes → Type 0 = λ b. GainedPart (g.O.Sink.held c.args.output.now) (g.O.Sink.held c.put.new.self) b in
    unwritten_by c.in-Some.text (put_by c.args.code.now _ _ c.in-Some.text (wrote_text c.in-Put.kind c.in-Put.v _ _ _ c.in-Some.text c.in-Put.ensures (told_text c.in-Some.is c.in_ok-text-in-Put.ensures))) refl refl (subst P c.as_slice.ensures c.in-Err.ensures.part)

pub returns-in-Ok-next_byte-clause-did : goal.returns-in-Ok-next_byte-clause-did
returns-in-Ok-next_byte-clause-did g c =
    let mid = seen c.step.new.self in
    took c.in-Ok-next_byte.byte (given mid.state) (waits_by c.args.code.now _ mid c.in-WantByte.ensures) (ap (λ (x : Seen). x.state) c.give.ensures) c.in-Ok-next_byte.ensures.drew c.in-Ok-next_byte.ensures.over refl

pub returns-in-Ok-next_byte-clause-further : goal.returns-in-Ok-next_byte-clause-further
returns-in-Ok-next_byte-clause-further g c = λ _. took_further c.in-Ok-next_byte.byte _ _ (seen c.step.new.self) _ c.in-WantByte.ensures c.give.ensures

pub returns-in-WantByte-clause-did : goal.returns-in-WantByte-clause-did
returns-in-WantByte-clause-did g c =
    let mid = seen c.step.new.self in
    unread_by (given mid.state) (waits_by c.args.code.now _ mid c.in-WantByte.ensures) (same_outer _ _ _ _ _ c.in-Err-next_byte.ensures.none c.in-Err-next_byte.ensures.stays)

pub returns-in-Ended-clause-did : goal.returns-in-Ended-clause-did
returns-in-Ended-clause-did g c = was_over ended c.in-Ended.ensures.over refl

pub returns-in-Fault-clause-did : goal.returns-in-Fault-clause-did
returns-in-Fault-clause-did g c =
    stopped (faulted c.in-Fault.kind c.in-Fault.place) _ (halts_by c.args.code.now (faults c.in-Fault.kind c.in-Fault.place) _ _ refl c.in-Fault.ensures) refl

pub returns-in-Exhausted-clause-did : goal.returns-in-Exhausted-clause-did
returns-in-Exhausted-clause-did g c = refused_by c.in-Exhausted.ensures.going c.in-Exhausted.ensures.passes refl

pub returns-in-Gone-clause-did : goal.returns-in-Gone-clause-did
returns-in-Gone-clause-did g c = stopped gone _ (halts_by c.args.code.now loses _ _ refl c.in-Gone.ensures) refl

pub returns-clause-did : goal.returns-clause-did
returns-clause-did g c = stopped stuck _ (halts_by c.args.code.now sticks _ _ refl c.in-Stuck.ensures) refl
