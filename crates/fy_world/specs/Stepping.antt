-- What the parts of `trace` did.
use Rattle.std.specs.Prelude.{◌≡◌, ◌≢◌, ◌⊎◌, ℕ, ◌+◌, ◌<◌, ◌≤◌, Bool, List, [], ◌∷◌, ◌++◌, Some, None, unwrap_or}
use Rattle.std.specs.Option.{option_map, ForSome}
use Rattle.std.specs.declared.option.Option.{Option}
use Rattle.std.specs.declared.result.Result.{Result}
use Rattle.fy_base.specs.Arithmetic.{written_text}
use Rattle.fy_base.specs.Outside.{Bytes, Gained, GainedPart, IsPrefix, appended}
use Rattle.fy_base.specs.declared.data.Datum.{Datum}
use Rattle.fy_base.specs.declared.data.PutKind.{PutKind}
use Rattle.fy_base.specs.declared.data.Ending.{Ending}
use Rattle.fy_base.specs.declared.data.Ending.TheVariants as ends
use Rattle.fy_runs.specs.Exchange.{Outer, Exchange}
use Rattle.pe_code.specs.declared.code.PeCode.{PeCode}
use Rattle.pe_machine.specs.States.{PeState}
use Rattle.pe_machine.specs.Step.{PeMove, goes, puts, takes, faults, sticks, loses, pe_step}
use Rattle.pe_machine.specs.Run.{going, ended, stuck, gone, standing_of, load_after, pe_start, pe_after}
use Rattle.pe_machine.specs.Seen.{Seen, IsFurther, address_of}
use Rattle.pe_machine.specs.declared.events.Phase.TheVariants as phase
use Rattle.pe_machine.specs.Ends.{word_machine, close_of, count_of, IsGoingBelow, IsWithin, EndsSo, AsksAt, PutsAt}
use Rattle.fy_world.specs.World.{Contents}
use Rattle.fy_world.specs.Steps.{StepEnd, IsSteppedRun, step_text, step_lines, step_words}
use Rattle.fy_world.specs.Note.{ended_lines}
use Rattle.fy_world.specs.Runs.{stepped}
use Rattle.fy_world.specs.Did.{Did}
use Rattle.fy_world.specs.Working.{ToldPart}
use Rattle.fy_world.specs.declared.world.Stop.{Stop}
use Rattle.fy_world.specs.declared.world.Stop.TheVariants.{Keep, Input, Output, Notes, Memory}

-- the text of a datum, or nothing where it isn't of the kind
abbrev pub text_of : PutKind → Datum → Bytes
text_of kind v = unwrap_or (written_text kind v) []

-- what a step puts
abbrev pub text_put : PeMove → Bytes
text_put (puts text s) = text
text_put (goes s) = []
text_put (takes go) = []
text_put (faults kind at) = []
text_put sticks = []
text_put loses = []

-- the line of the step from a state, with its end
abbrev pub step_line : PeCode → List Bytes → PeState → Bytes
step_line code names s = step_text code names (address_of s.focus) ++ 10 ∷ []

-- the ends that steps have
abbrev pub IsStepEnd : Ending → Type 0
IsStepEnd ends.Ended = Unit {0}
IsStepEnd (ends.Fault kind place) = Unit {0}
IsStepEnd ends.Exhausted = Unit {0}
IsStepEnd ends.Spent = Unit {0}
IsStepEnd ends.Stuck = Unit {0}
IsStepEnd ends.Gone = Unit {0}
IsStepEnd _ = ⊥

-- the end of a run that made all its steps, by the state behind them
abbrev pub IsLastEnd : Ending → PeState → Type 0
IsLastEnd ends.Ended s = standing_of s ≡ ended
IsLastEnd ends.Spent s = standing_of s ≡ going
IsLastEnd _ s = ⊥

-- a machine that begins
abbrev pub begun : Seen
begun = record { state = pe_start; steps = 0; phase = phase.Going; limit = step_words }

-- a step with its input and output: how the run ended by it, or `None` where it goes on
abbrev pub Exchanged : PeCode → Seen → Seen → Outer → Outer → Option Ending → Type 0
Exchanged code old new o u end = Exchange (word_machine code old.limit) old.state new.state o u (count_of end) (option_map close_of end)

abbrev pub outer_of : Bool → Contents → Outer
outer_of over c = record { left = c.input; over = over; held = c.output }

-- the notes after a step, behind which the run goes on or ends so: its line more, but none where no step was made
abbrev pub noted : Option Ending → Option Bytes → Bytes → Option Bytes
noted (Some ends.Ended) notes line = notes
noted (Some ends.Exhausted) notes line = notes
noted _ notes line = appended notes line

-- a step was made, or the run was over
pub record Turned (code : PeCode) (names : List Bytes) (old new : Seen) (over over' : Bool) (before now : Contents) (end : Option Ending) : Type 0 where
  pub exchange : Exchanged code old new (outer_of over before) (outer_of over' now) end
  pub further : end ≡ None → IsFurther old new
  pub files : now.files ≡ before.files
  pub notes : now.notes ≡ noted end before.notes (step_line code names old.state)

-- what was told and put of a step that was stopped: its line or a part of it, and a part of its text; all of its line where it was stopped later than that
pub record StepPart (line text : Bytes) (before now : Contents) (stop : Stop) : Type 0 where
  pub files : now.files ≡ before.files
  pub input : now.input ≡ before.input
  pub output : GainedPart before.output now.output text
  pub notes : GainedPart before.notes now.notes line
  pub whole : stop ≡ Memory → (now.notes ≡ before.notes) ⊎ Gained before.notes now.notes line
  pub first : stop ≢ Notes → stop ≢ Memory → Gained before.notes now.notes line
  pub other : stop ≢ Keep

-- a step of the run was stopped
pub record TurnStopped (code : PeCode) (names : List Bytes) (old : Seen) (before now : Contents) (stop : Stop) : Type 0 where
  pub going : standing_of old.state ≡ going
  pub inside : load_after (pe_step code old.state) ≤ old.limit
  pub part : StepPart (step_line code names old.state) (text_put (pe_step code old.state)) before now stop
  pub asks : stop ≡ Input → (go : Option ℕ → PeState) × (pe_step code old.state ≡ takes go)
  pub puts : stop ≡ Output → (text : Bytes) × (then_state : PeState) × (pe_step code old.state ≡ puts text then_state)

-- ---- runs

-- no step of a run is undefined or looks for a frame that is gone
pub record IsNeverLost (code : PeCode) : Type 0 where
  pub never_stuck : (input : Bytes) (n : ℕ) → (pe_after code input n).standing ≢ stuck
  pub never_gone : (input : Bytes) (n : ℕ) → (pe_after code input n).standing ≢ gone

-- a run within its limits ended so, on an input that explains it; its lines were told, and its output was put
pub record HasEnded (code : PeCode) (names : List Bytes) (limit : ℕ) (before now : Contents) (end : Ending) : Type 0 where
  pub input : Bytes
  pub fed : ForSome before.input (λ left. input ≡ left)
  pub n : ℕ
  pub few : n ≤ limit
  pub ends : EndsSo end code input step_words n limit
  pub inside : IsWithin code input step_words n
  pub kind : IsStepEnd end
  pub files : now.files ≡ before.files
  pub rest : now.input ≡ option_map (λ _. (pe_after code input n).input) before.input
  pub output : now.output ≡ appended before.output (pe_after code input n).output
  pub notes : now.notes ≡ appended before.notes (ended_lines (step_lines code names input n))

-- the step behind n others was stopped; what was taken is what those took, and what was put is what those put, and a part of what it puts; where its read or its put failed, all the lines were told
pub record HasStopped (code : PeCode) (names : List Bytes) (limit : ℕ) (before now : Contents) (stop : Stop) : Type 0 where
  pub input : Bytes
  pub fed : ForSome before.input (λ left. input ≡ left)
  pub n : ℕ
  pub few : n < limit
  pub going : IsGoingBelow code input (n + 1)
  pub inside : IsWithin code input step_words (n + 1)
  pub files : now.files ≡ before.files
  pub rest : now.input ≡ option_map (λ _. (pe_after code input n).input) before.input
  pub part : Bytes
  pub output : Gained before.output now.output ((pe_after code input n).output ++ part)
  pub begins : IsPrefix ((pe_after code input n).output ++ part) (pe_after code input (n + 1)).output
  pub told : ToldPart (step_lines code names input (n + 1)) before.notes now.notes stop
  pub first : stop ≢ Notes → stop ≢ Memory → Gained before.notes now.notes (ended_lines (step_lines code names input (n + 1)))
  pub asks : stop ≡ Input → AsksAt code input (n + 1)
  pub unput : stop ≡ Input → Gained before.output now.output (pe_after code input n).output
  pub puts : stop ≡ Output → PutsAt code input (n + 1)
  pub untaken : stop ≡ Output → (pe_after code input (n + 1)).input ≡ (pe_after code input n).input
  pub other : stop ≢ Keep

-- code ran on an input that explains it, and what is due for its run was done, or a part
pub record HasStepped (code : PeCode) (names : List Bytes) (limit : ℕ) (before now : Contents) (result : Result ℕ Stop) : Type 0 where
  pub input : Bytes
  pub fed : ForSome before.input (λ left. input ≡ left)
  pub n : ℕ
  pub end : StepEnd
  pub is_run : IsSteppedRun (record { code = code; names = names; input = input; limit = limit }) n end
  pub did : Did (stepped (record { code = code; names = names; input = input; limit = limit }) n end) before now result
