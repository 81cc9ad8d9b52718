-- How a run over a source and a sink ends, told by the machine's run on an input.
use Rattle.std.specs.Prelude.{◌≡◌, ◌≢◌, ℕ, ◌-◌, ◌<◌, List, ◌++◌, length, All, Some, None}
use Rattle.std.specs.Option.{ForSome, option_map}
use Rattle.std.specs.declared.option.Option.{Option}
use Rattle.fy_base.specs.Outside.{Bytes, GainedPart}
use Rattle.fy_base.specs.declared.data.Ending.{Ending}
use Rattle.fy_base.specs.declared.data.Ending.TheVariants as ends
use Rattle.fy_runs.specs.Ends as runs
use Rattle.fy_runs.specs.Ends.{Limited, Close, stands, spent, unread, unwritten, never, Occurs, ClosesSo, taken_by, HasPutBy}
use Rattle.rv_insn.specs.Program.{Program}
use Rattle.rv_insn.specs.Step.{Core, instruction_step}
use Rattle.rv_insn.specs.Run.{run_of, insn_machine}
use Rattle.rv_machine.specs.Run.{World, going_world, run}
use Rattle.rv_machine.specs.Fetch.{fetches}
use Rattle.rv_machine.specs.declared.watch.Fetched.{Fetched}
use Rattle.circular_buffer.specs.Buffer.{keep_last}
use Rattle.rv_insn.specs.declared.events.Event.{Event}
use Rattle.rv_insn.specs.declared.events.Event.TheVariants as events
use Rattle.rv_insn.specs.declared.events.Status.{Status}
use Rattle.rv_insn.specs.declared.events.Status.TheVariants.{Running, Waiting, Stopped}
use Rattle.rv_machine.specs.declared.run.MachineRun.{MachineRun}

-- a program's machine has no limit
abbrev pub free_machine : Program → Limited Core Event
free_machine program = record { machine = insn_machine program; IsInside = λ core. Unit {0}; IsPast = λ core. ⊥ }

-- a run goes on after each count of instructions below n
abbrev pub IsGoingBelow : Program → World → ℕ → Type 0
IsGoingBelow program world n = runs.IsGoingBelow (insn_machine program) (run_of world) n

-- a run goes on below n instructions, and stands so after n
abbrev pub StandsAt : Program → World → ℕ → Event → Type 0
StandsAt program world n event = runs.StandsAt (insn_machine program) (run_of world) n event

-- a run comes to its instruction number n, which asks for a byte
abbrev pub AsksAt : Program → World → ℕ → Type 0
AsksAt program world n = runs.AsksAt (insn_machine program) (run_of world) n

-- or puts one
abbrev pub PutsAt : Program → World → ℕ → Type 0
PutsAt program world n = runs.PutsAt (insn_machine program) (run_of world) n

-- the ends of a run of the machine
abbrev pub close_of : Ending → Close Event
close_of ends.Ended = stands events.Ended
close_of (ends.Fault kind place) = stands (events.Fault kind place)
close_of ends.Exhausted = stands events.Exhausted
close_of (ends.Trap kind) = stands (events.Trap kind)
close_of ends.Spent = spent
close_of ends.InputFault = unread
close_of ends.OutputFault = unwritten
close_of ends.TooBig = never
close_of ends.Stuck = never
close_of ends.Gone = never

abbrev pub IsMachineEnd : Ending → Type 0
IsMachineEnd end = Occurs (close_of end)

-- what an end means of the run, of which n instructions out of so many were executed
abbrev pub EndsSo : Ending → Program → World → ℕ → ℕ → Type 0
EndsSo end program world n limit = ClosesSo (free_machine program) (close_of end) (run_of world) n limit

-- of which count of instructions the input was taken: a read that failed took none
abbrev pub taken_after : Ending → ℕ → ℕ
taken_after end n = taken_by (close_of end) n

-- a sink gained the output; where it failed, a beginning of it
abbrev pub HasPut : Ending → Option Bytes → Option Bytes → Bytes → Type 0
HasPut end before now output = HasPutBy (close_of end) before now output

-- a sink that failed gained a beginning of what n instructions put, with all that was put before each of them that reads
abbrev pub GainedSinceRead : Program → World → ℕ → Option Bytes → Option Bytes → Type 0
GainedSinceRead program world n before now = runs.GainedSinceRead (insn_machine program) (run_of world) n before now

-- the machine is the run's, but where it still waits for a byte
abbrev pub core_after : Ending → Program → World → ℕ → Core
core_after ends.InputFault program world n = (instruction_step program (run program (n - 1) world).core).core
core_after _ program world n = (run program n world).core

-- what a run of at most so many instructions came to, told by an input that explains it, which is what was left at the
-- source where that is told: its end, the machine after it, what is left then, and what the sink gained, which is a
-- beginning of all that the machine puts within the limit
pub record RunsTo (program : Program) (core : Core) (limit : ℕ) (done : MachineRun) (after : Core) (left left_now before now : Option Bytes) : Type 0 where
  pub fed : Bytes
  pub told : ForSome left (λ bytes. fed ≡ bytes)
  -- what is told being bytes, so is this
  pub bytes : ForSome left (All (λ byte. byte < 256)) → All (λ byte. byte < 256) fed
  pub end : EndsSo done.end program (going_world core fed) done.steps limit
  pub core_is : after ≡ core_after done.end program (going_world core fed) done.steps
  pub rest : left_now ≡ option_map (λ _. (run program (taken_after done.end done.steps) (going_world core fed)).input) left
  pub output : HasPut done.end before now (run program done.steps (going_world core fed)).output
  pub part : GainedPart before now (run program limit (going_world core fed)).output
  -- it tells how many bytes the run put, but where the sink failed
  pub counted : done.end ≢ ends.OutputFault → done.bytes ≡ length (run program done.steps (going_world core fed)).output
  -- where the sink failed, it had gained all that was put before the last read
  pub unput : done.end ≡ ends.OutputFault → GainedSinceRead program (going_world core fed) done.steps before now

-- what a watched run came to, and that its watch holds the last words that were fetched
pub record Watched (program : Program) (core : Core) (limit : ℕ) (done : MachineRun) (after : Core) (left left_now before now : Option Bytes) (room : ℕ) (held held_now : List Fetched) : Type 0 where
  pub runs : RunsTo program core limit done after left left_now before now
  pub watched : held_now ≡ keep_last room (held ++ fetches program (going_world core runs.fed) done.steps)

-- how the machine stands after a run
abbrev pub status_at : Ending → Status
status_at ends.Ended = Stopped
status_at (ends.Fault kind place) = Stopped
status_at ends.Exhausted = Stopped
status_at (ends.Trap kind) = Stopped
status_at ends.InputFault = Waiting
status_at _ = Running

-- and after one instruction of it, where `None` is that it goes on
abbrev pub status_by : Option Ending → Status
status_by None = Running
status_by (Some end) = status_at end
