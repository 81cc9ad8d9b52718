use Rattle.std.proofs.Common.{◌≡◌, ◌+◌, Bool, refl, ap, ◌∙◌, subst}
use Rattle.std.specs.declared.option.Option.{Option}
use Rattle.fy_base.specs.Outside.{Bytes, Gained, GainedPart}
use Rattle.fy_runs.specs.Exchange.{Outer, went, wrote, took, stopped, was_over, refused_by, unread_by, unwritten_by}
use Rattle.fy_phrase.specs.Copy.{faults, sticks, ended, faulted, stuck}
use Rattle.fy_copy.specs.Moves.{given}
use Rattle.fy_copy.specs.Seen.{Seen, Stepped, seen}
use Rattle.fy_copy.specs.declared.progress.Progress.{Progress}
use Rattle.fy_copy.specs.declared.progress.Progress.TheVariants as progress
use Rattle.fy_copy.proofs.Ending.{made_by, went_by, put_by, waits_by}
use Rattle.fy_copy.proofs.run.turn.Goals as goal

told : (p q : Progress) (s t : Seen) → p ≡ q → Stepped p s t → Stepped q s t
told p q s t is did = subst (λ x. Stepped x s t) is did

abbrev outer_with : Option Bytes → Bool → Option Bytes → Outer
outer_with left over held = record { left = left; over = over; held = held }

same_outer : (k l : Option Bytes) (a b : Bool) (held : Option Bytes) → k ≡ l → a ≡ b → outer_with k a held ≡ outer_with l b held
same_outer k l a b held left over = ap (λ (x : Option Bytes). outer_with x a held) left ∙ ap (λ (x : Bool). outer_with l x held) over

pub returns-in-Going-clause-did : goal.returns-in-Going-clause-did
returns-in-Going-clause-did g c = went (went_by _ _ (told _ progress.Going _ _ c.in-Going.is c.in_ok-step.ensures.did)) refl

pub returns-in-Going-clause-further : goal.returns-in-Going-clause-further
returns-in-Going-clause-further g c = let on = told _ progress.Going _ _ c.in-Going.is c.in_ok-step.ensures.did in λ _. record { steps = on.steps; phase = on.phase }

pub returns-in-Ok-clause-did : goal.returns-in-Ok-clause-did
returns-in-Ok-clause-did g c =
    let P : Bytes → Type 0 = λ b. Gained (g.O.Sink.held c.args.output.now) (g.O.Sink.held c.put.new.self) b in
    wrote c.in-Put.text (put_by _ _ c.in-Put.text (told _ (progress.Put c.in-Put.text) _ _ c.in-Put.is c.in_ok-step.ensures.did)) refl refl (subst P c.as_slice.ensures c.in-Ok.ensures.gained)

pub returns-in-Ok-clause-further : goal.returns-in-Ok-clause-further
returns-in-Ok-clause-further g c = let on = told _ (progress.Put c.in-Put.text) _ _ c.in-Put.is c.in_ok-step.ensures.did in λ _. record { steps = on.steps; phase = on.phase }

pub returns-in-Put-clause-did : goal.returns-in-Put-clause-did
returns-in-Put-clause-did g c =
    let P : Bytes → Type 0 = λ b. GainedPart (g.O.Sink.held c.args.output.now) (g.O.Sink.held c.put.new.self) b in
    unwritten_by c.in-Put.text (put_by _ _ c.in-Put.text (told _ (progress.Put c.in-Put.text) _ _ c.in-Put.is c.in_ok-step.ensures.did)) refl refl (subst P c.as_slice.ensures c.in-Err.ensures.part)

pub returns-in-Ok-next_byte-clause-did : goal.returns-in-Ok-next_byte-clause-did
returns-in-Ok-next_byte-clause-did g c =
    let mid = seen c.step.new.state in
    took c.in-Ok-next_byte.byte (given mid.state) (waits_by _ mid (told _ progress.WantByte _ _ c.in-WantByte.is c.in_ok-step.ensures.did)) (ap (λ x. x.state) c.give.ensures) c.in-Ok-next_byte.ensures.drew c.in-Ok-next_byte.ensures.over refl

pub returns-in-Ok-next_byte-clause-further : goal.returns-in-Ok-next_byte-clause-further
returns-in-Ok-next_byte-clause-further g c =
    let waits = told _ progress.WantByte _ _ c.in-WantByte.is c.in_ok-step.ensures.did in
    λ _. record { steps = ap (λ x. x.steps) c.give.ensures ∙ ap (λ k. k + 1) waits.steps; phase = ap (λ x. x.phase) c.give.ensures }

pub returns-in-WantByte-clause-did : goal.returns-in-WantByte-clause-did
returns-in-WantByte-clause-did g c =
    let mid = seen c.step.new.state in
    unread_by (given mid.state) (waits_by _ mid (told _ progress.WantByte _ _ c.in-WantByte.is c.in_ok-step.ensures.did)) (same_outer _ _ _ _ _ c.in-Err-next_byte.ensures.none c.in-Err-next_byte.ensures.stays)

pub returns-in-Ended-clause-did : goal.returns-in-Ended-clause-did
returns-in-Ended-clause-did g c = let over = told _ progress.Ended _ _ c.in-Ended.is c.in_ok-step.ensures.did in was_over ended over.over refl

pub returns-in-Fault-clause-did : goal.returns-in-Fault-clause-did
returns-in-Fault-clause-did g c =
    let halted = told _ (progress.Fault c.in-Fault.kind c.in-Fault.place) _ _ c.in-Fault.is c.in_ok-step.ensures.did in
    stopped (faulted c.in-Fault.kind c.in-Fault.place) _ (made_by _ (faults c.in-Fault.kind c.in-Fault.place) halted.going halted.move (λ big. big)) refl

pub returns-in-Stuck-clause-did : goal.returns-in-Stuck-clause-did
returns-in-Stuck-clause-did g c =
    let halted = told _ progress.Stuck _ _ c.in-Stuck.is c.in_ok-step.ensures.did in
    stopped stuck _ (made_by _ sticks halted.going halted.move (λ big. big)) refl

pub returns-clause-did : goal.returns-clause-did
returns-clause-did g c = let big = told _ progress.TooBig _ _ c.in-TooBig.is c.in_ok-step.ensures.did in refused_by big.going big.big refl
