-- How a run of the copy rule over a source and a sink ends.
use Rattle.std.specs.Prelude.{◌≡◌, ℕ, ◌+◌, max, Some}
use Rattle.std.specs.declared.option.Option.{Option}
use Rattle.fy_base.specs.Outside.{Bytes}
use Rattle.fy_base.specs.declared.data.Ending.{Ending}
use Rattle.fy_base.specs.declared.data.Ending.TheVariants as ends
use Rattle.fy_runs.specs.Ends as runs
use Rattle.fy_runs.specs.Ends.{Limited, Close, stands, refused, spent, unread, unwritten, never, Occurs, ClosesSo, taken_by, HasPutBy}
use Rattle.fy_phrase.specs.Tree.{Tree}
use Rattle.fy_phrase.specs.Copy.{CopyState, Standing, ended, faulted, stuck, start, copy_step, copy_machine, start_run, peak_load}
use Rattle.fy_copy.specs.Moves.{IsTooBig}
use Rattle.fy_copy.specs.declared.run.CopyRun.{CopyRun}

-- the copy rule with the limit on held phrases
abbrev pub held_machine : Limited CopyState Standing
held_machine = record { machine = copy_machine; IsInside = λ s. ¬ IsTooBig (copy_step s); IsPast = λ s. IsTooBig (copy_step s) }

-- a run goes on after each count of steps below n
abbrev pub IsGoingBelow : Tree → Bytes → ℕ → Type 0
IsGoingBelow p input n = runs.IsGoingBelow copy_machine (start_run p input) n

-- none of the first n steps of a run leads to a focus that passes the limit on held phrases
abbrev pub IsHeldBelow : Tree → Bytes → ℕ → Type 0
IsHeldBelow p input n = runs.IsInsideBelow held_machine (start_run p input) n

-- a run comes to its step number n, which asks for a byte
abbrev pub AsksAt : Tree → Bytes → ℕ → Type 0
AsksAt p input n = runs.AsksAt copy_machine (start_run p input) n

-- or puts a text
abbrev pub PutsAt : Tree → Bytes → ℕ → Type 0
PutsAt p input n = runs.PutsAt copy_machine (start_run p input) n

-- the ends of a run of the copy rule
abbrev pub close_of : Ending → Close Standing
close_of ends.Ended = stands ended
close_of (ends.Fault kind at) = stands (faulted kind at)
close_of ends.Stuck = stands stuck
close_of ends.TooBig = refused
close_of ends.Spent = spent
close_of ends.InputFault = unread
close_of ends.OutputFault = unwritten
close_of ends.Exhausted = never
close_of ends.Gone = never
close_of (ends.Trap kind) = never

abbrev pub IsCopyEnd : Ending → Type 0
IsCopyEnd end = Occurs (close_of end)

-- what an end means of the run, of which n steps out of so many were made
abbrev pub EndsSo : Ending → Tree → Bytes → ℕ → ℕ → Type 0
EndsSo end p input n limit = ClosesSo held_machine (close_of end) (start_run p input) n limit

-- of which count of steps the input was taken and the load was counted: a read that failed took none
abbrev pub taken_after : Ending → ℕ → ℕ
taken_after end n = taken_by (close_of end) n

-- a sink gained the output; where it failed, a beginning of it
abbrev pub HasPut : Ending → Option Bytes → Option Bytes → Bytes → Type 0
HasPut end before now output = HasPutBy (close_of end) before now output

-- what a run of at most so many steps came to: its end, before which no focus passed the limit on held phrases, and its greatest load
abbrev pub RunsTo : Tree → ℕ → CopyRun → Option Bytes → Option Bytes → Option Bytes → Option Bytes → Type 0
RunsTo p limit done left left_now before now =
    runs.RunsTo held_machine (start p) limit done.steps (close_of done.end) (λ fed. done.peak ≡ peak_load p fed (taken_after done.end done.steps)) left left_now before now

-- what a run took and put that found no memory at some step within the limit
abbrev pub DoesPart : Tree → ℕ → Option Bytes → Option Bytes → Option Bytes → Option Bytes → Type 0
DoesPart p limit left left_now before now = runs.DoesPart held_machine (start p) limit left left_now before now

-- by how many steps a run is longer that goes on or ends so
abbrev pub count_of : Option Ending → ℕ
count_of (Some ends.Ended) = 0
count_of (Some ends.TooBig) = 0
count_of _ = 1

-- the greatest load so far, and of the state after where its text was put in part
abbrev pub peak_at_end : Ending → ℕ → ℕ → ℕ
peak_at_end ends.OutputFault peak load = max peak load
peak_at_end _ peak load = peak

-- the run that ended in its step number k + 1, or before it, with the greatest load so far and the load of the state after
abbrev pub run_at_end : Ending → ℕ → ℕ → ℕ → CopyRun
run_at_end end k peak load = record { end = end; steps = k + count_of (Some end); peak = peak_at_end end peak load }
