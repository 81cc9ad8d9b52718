-- A state of the program as contracts see it, and what a step of it tells.
use Rattle.std.specs.Prelude.{◌≡◌, ℕ, ◌+◌, true}
use Rattle.std.specs.declared.option.Option.{Option}
use Rattle.fy_phrase.specs.Sizes.{fits}
use Rattle.fy_phrase.specs.Copy as copy
use Rattle.fy_phrase.specs.Copy.{CopyMove, goes, puts, takes, faults, sticks, standing_of, copy_step, going, ended}
use Rattle.fy_copy.specs.Shown.{state_of}
use Rattle.fy_copy.specs.Moves.{IsTooBig, given}
use Rattle.fy_copy.specs.declared.state.Phase.{Phase}
use Rattle.fy_copy.specs.declared.state.Phase.TheVariants as phase
use Rattle.fy_copy.specs.declared.state.CopyState.{CopyState}
use Rattle.fy_copy.specs.declared.progress.Progress.{Progress}
use Rattle.fy_copy.specs.declared.progress.Progress.TheVariants as progress

-- the copy rule's state, the number of steps, and whether it goes on
pub record Seen : Type 0 where
  pub state : copy.CopyState
  pub steps : ℕ
  pub phase : Phase

abbrev pub seen : CopyState → Seen
seen s = record { state = state_of s.core; steps = s.steps; phase = s.phase }

-- a state where a phrase begins
abbrev pub IsStart : Seen → copy.CopyState → Type 0
IsStart new s = new ≡ record { state = s; steps = 0; phase = phase.Going }

-- a step was made to the new state, which goes on and whose focus is within the limit on held phrases
pub record WentOn (old new : Seen) (m : CopyMove) : Type 0 where
  pub going : standing_of old.state ≡ going
  pub move : copy_step old.state ≡ m
  pub held : fits new.state.focus ≡ true
  pub steps : new.steps ≡ old.steps + 1
  pub phase : new.phase ≡ phase.Going

-- a step asks for a byte
pub record Waits (old new : Seen) : Type 0 where
  pub going : standing_of old.state ≡ going
  pub move : copy_step old.state ≡ takes (given new.state)
  pub held : fits new.state.focus ≡ true
  pub steps : new.steps ≡ old.steps
  pub phase : new.phase ≡ phase.Waiting

-- a step was made that ends the run
pub record Halted (old new : Seen) (m : CopyMove) : Type 0 where
  pub going : standing_of old.state ≡ going
  pub move : copy_step old.state ≡ m
  pub steps : new.steps ≡ old.steps + 1
  pub phase : new.phase ≡ phase.Over

-- no step was made, since the next focus would pass the limit
pub record Refused (old new : Seen) : Type 0 where
  pub going : standing_of old.state ≡ going
  pub big : IsTooBig (copy_step old.state)
  pub steps : new.steps ≡ old.steps
  pub phase : new.phase ≡ phase.Over

-- no step was made, since the state is at its end
pub record WasOver (old new : Seen) : Type 0 where
  pub over : standing_of old.state ≡ ended
  pub steps : new.steps ≡ old.steps
  pub phase : new.phase ≡ phase.Over

-- what a step tells
abbrev pub Stepped : Progress → Seen → Seen → Type 0
Stepped progress.Going old new = WentOn old new (goes new.state)
Stepped (progress.Put text) old new = WentOn old new (puts text new.state)
Stepped progress.WantByte old new = Waits old new
Stepped progress.Ended old new = WasOver old new
Stepped (progress.Fault kind at) old new = Halted old new (faults kind at)
Stepped progress.Stuck old new = Halted old new sticks
Stepped progress.TooBig old new = Refused old new

-- and what a byte does then
abbrev pub went_on_with : Option ℕ → Seen → Seen
went_on_with byte old = record { state = given old.state byte; steps = old.steps + 1; phase = phase.Going }

-- a step more was made, and the state goes on
pub record IsFurther (old new : Seen) : Type 0 where
  pub steps : new.steps ≡ old.steps + 1
  pub phase : new.phase ≡ phase.Going
