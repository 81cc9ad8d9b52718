-- A state of the program as contracts see it, and what a step of it tells.
use Rattle.std.specs.Prelude.{◌≡◌, ℕ, ◌+◌, ◌<◌, ◌≤◌, Some, None}
use Rattle.std.specs.declared.option.Option.{Option}
use Rattle.fy_base.specs.Outside.{Bytes}
use Rattle.fy_base.specs.Arithmetic.{written_text}
use Rattle.fy_base.specs.declared.data.Datum.{Datum}
use Rattle.fy_base.specs.declared.data.PutKind.{PutKind}
use Rattle.fy_phrase.specs.Contexts.{store_c}
use Rattle.fy_phrase.specs.Copy.{byte_or_end}
use Rattle.pe_code.specs.declared.code.PeCode.{PeCode}
use Rattle.pe_machine.specs.States as states
use Rattle.pe_machine.specs.States.{Focus, code_at, value, completed}
use Rattle.pe_machine.specs.Step.{PeMove, goes, puts, takes, faults, sticks, loses, push, pe_step}
use Rattle.pe_machine.specs.Run.{going, ended, standing_of, load_after}
use Rattle.pe_machine.specs.Shown.{with_filling}
use Rattle.pe_machine.specs.Turns.{state_of}
use Rattle.pe_machine.specs.declared.events.Phase.{Phase}
use Rattle.pe_machine.specs.declared.events.Phase.TheVariants as phase
use Rattle.pe_machine.specs.declared.events.PeEvent.{PeEvent}
use Rattle.pe_machine.specs.declared.events.PeEvent.TheVariants as event
use Rattle.pe_machine.specs.declared.machine.PeState.{PeState}

-- the machine's state, the number of steps, whether it goes on, and the limit on its load
pub record Seen : Type 0 where
  pub state : states.PeState
  pub steps : ℕ
  pub phase : Phase
  pub limit : ℕ

abbrev pub seen : PeState → Seen
seen s = record { state = with_filling s.filling (state_of s.core); steps = s.steps; phase = s.phase; limit = s.core.limit }

-- the same where no sequence gets its cells
abbrev pub still_seen : PeState → Seen
still_seen s = record { state = state_of s.core; steps = s.steps; phase = s.phase; limit = s.core.limit }

-- the address of the instruction in focus
abbrev pub address_of : Focus → Option ℕ
address_of (code_at p) = Some p.address
address_of (value v) = None
address_of completed = None

-- the state that a waiting one goes on to
abbrev pub given : states.PeState → Option ℕ → states.PeState
given s byte = push (store_c (byte_or_end byte)) s

-- a step was made by the move, which goes on as it is told, within the limit
pub record WentOn (move told : PeMove) (old new : Seen) : Type 0 where
  pub going : standing_of old.state ≡ going
  pub move_is : move ≡ told
  pub within : new.state.load ≤ old.limit
  pub is : new ≡ record old { state = new.state; steps = old.steps + 1 }

-- a step was made by the move, which puts the text of a datum
pub record Wrote (kind : PutKind) (v : Datum) (move : PeMove) (old new : Seen) : Type 0 where
  pub text : Bytes
  pub text_is : written_text kind v ≡ Some text
  pub went : WentOn move (puts text new.state) old new

-- the move asks for a byte, and the load after it is within the limit
pub record Waits (move : PeMove) (old new : Seen) : Type 0 where
  pub going : standing_of old.state ≡ going
  pub move_is : move ≡ takes (given new.state)
  pub within : new.state.load + 8 ≤ old.limit
  pub is : new ≡ record old { state = new.state; phase = phase.Waiting }

-- the step that ended the run counts
abbrev pub halted : Seen → Seen
halted old = record old { steps = old.steps + 1; phase = phase.Over }

-- a step was made by the move, which ends the run as it is told
pub record Halts (move told : PeMove) (old new : Seen) : Type 0 where
  pub going : standing_of old.state ≡ going
  pub move_is : move ≡ told
  pub is : new ≡ halted old

-- no step was made, since the load after the move would pass the limit
pub record Refused (move : PeMove) (old new : Seen) : Type 0 where
  pub going : standing_of old.state ≡ going
  pub passes : old.limit < load_after move
  pub is : new ≡ record old { phase = phase.Over }

-- no step was made, since the state is at its end
pub record WasOver (old new : Seen) : Type 0 where
  pub over : standing_of old.state ≡ ended
  pub is : new ≡ record old { phase = phase.Over }

-- what an event tells of the move of a step
abbrev pub StepOf : PeEvent → PeMove → Seen → Seen → Type 0
StepOf event.Going move old new = WentOn move (goes new.state) old new
StepOf (event.Put kind v) move old new = Wrote kind v move old new
StepOf event.WantByte move old new = Waits move old new
StepOf event.Ended move old new = WasOver old new
StepOf (event.Fault kind at) move old new = Halts move (faults kind at) old new
StepOf event.Exhausted move old new = Refused move old new
StepOf event.Gone move old new = Halts move loses old new
StepOf event.Stuck move old new = Halts move sticks old new

abbrev pub Stepped : PeEvent → PeCode → Seen → Seen → Type 0
Stepped e code old new = StepOf e (pe_step code old.state) old new

-- and what a byte does then
abbrev pub went_on_with : Option ℕ → Seen → Seen
went_on_with byte old = record old { state = given old.state byte; steps = old.steps + 1; phase = phase.Going }

-- a step more was made, and the state goes on within its limit
pub record IsFurther (old new : Seen) : Type 0 where
  pub steps : new.steps ≡ old.steps + 1
  pub phase : old.phase ≡ phase.Going → new.phase ≡ phase.Going
  pub limit : new.limit ≡ old.limit
