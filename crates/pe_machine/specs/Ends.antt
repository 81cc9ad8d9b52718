-- How a run of the machine over a source and a sink ends.
use Rattle.std.specs.Prelude.{ℕ, ◌<◌, ◌≤◌, Some}
use Rattle.std.specs.declared.option.Option.{Option}
use Rattle.fy_base.specs.Outside.{Bytes}
use Rattle.fy_base.specs.declared.data.Ending.{Ending}
use Rattle.fy_base.specs.declared.data.Ending.TheVariants as ends
use Rattle.fy_runs.specs.Ends as runs
use Rattle.fy_runs.specs.Ends.{Limited, Close, stands, refused, spent, unread, unwritten, never, Occurs, ClosesSo}
use Rattle.pe_code.specs.declared.code.PeCode.{PeCode}
use Rattle.pe_machine.specs.States.{PeState}
use Rattle.pe_machine.specs.Step.{pe_step}
use Rattle.pe_machine.specs.Run.{Standing, ended, faulted, stuck, gone, pe_start, code_machine, start_run, load_after}

-- a code's machine with so many words for its load
abbrev pub word_machine : PeCode → ℕ → Limited PeState Standing
word_machine code words = record { machine = code_machine code; IsInside = λ s. load_after (pe_step code s) ≤ words; IsPast = λ s. words < load_after (pe_step code s) }

-- a run goes on after each count of steps below n
abbrev pub IsGoingBelow : PeCode → Bytes → ℕ → Type 0
IsGoingBelow code input n = runs.IsGoingBelow (code_machine code) (start_run input) n

-- none of the first n steps of a run leads to a load that passes the words
abbrev pub IsWithin : PeCode → Bytes → ℕ → ℕ → Type 0
IsWithin code input words n = runs.IsInsideBelow (word_machine code words) (start_run input) n

-- a run goes on below n steps, and stands so after n
abbrev pub StandsAt : PeCode → Bytes → ℕ → Standing → Type 0
StandsAt code input n standing = runs.StandsAt (code_machine code) (start_run input) n standing

-- a run comes to its step number n, which asks for a byte
abbrev pub AsksAt : PeCode → Bytes → ℕ → Type 0
AsksAt code input n = runs.AsksAt (code_machine code) (start_run input) n

-- or puts a text
abbrev pub PutsAt : PeCode → Bytes → ℕ → Type 0
PutsAt code input n = runs.PutsAt (code_machine code) (start_run input) n

-- the ends of a run of the machine
abbrev pub close_of : Ending → Close Standing
close_of ends.Ended = stands ended
close_of (ends.Fault kind at) = stands (faulted kind at)
close_of ends.Stuck = stands stuck
close_of ends.Gone = stands gone
close_of ends.Exhausted = refused
close_of ends.Spent = spent
close_of ends.InputFault = unread
close_of ends.OutputFault = unwritten
close_of ends.TooBig = never
close_of (ends.Trap kind) = never

abbrev pub IsPeEnd : Ending → Type 0
IsPeEnd end = Occurs (close_of end)

-- what an end means of the run with so many words, of which n steps out of so many were made
abbrev pub EndsSo : Ending → PeCode → Bytes → ℕ → ℕ → ℕ → Type 0
EndsSo end code input words n limit = ClosesSo (word_machine code words) (close_of end) (start_run input) n limit

-- what a run of at most so many steps with so many words came to: the number of its steps, and its end, before which no load passed the words
pub record RunsTo (code : PeCode) (words limit : ℕ) (end : Ending) (left left_now before now : Option Bytes) : Type 0 where
  pub made : ℕ
  pub few : made ≤ limit
  pub run : runs.RunsTo (word_machine code words) pe_start limit made (close_of end) (λ fed. Unit {0}) left left_now before now

-- what a run took and put that found no memory at some step within the limit
abbrev pub DoesPart : PeCode → ℕ → ℕ → Option Bytes → Option Bytes → Option Bytes → Option Bytes → Type 0
DoesPart code words limit left left_now before now = runs.DoesPart (word_machine code words) pe_start limit left left_now before now

-- by how many steps a run is longer that goes on or ends so
abbrev pub count_of : Option Ending → ℕ
count_of (Some ends.Ended) = 0
count_of (Some ends.Exhausted) = 0
count_of _ = 1
