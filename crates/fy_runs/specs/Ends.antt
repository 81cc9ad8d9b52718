-- How a run over a source and a sink ends.
use Rattle.std.specs.Prelude.{◌≡◌, ℕ, ◌-◌, ◌<◌, ◌≤◌}
use Rattle.std.specs.Option.{option_map, ForSome}
use Rattle.std.specs.declared.option.Option.{Option}
use Rattle.fy_base.specs.Outside.{Bytes, Gained, GainedPart, IsPrefix}
use Rattle.fy_runs.specs.Runs.{Machine, Run, takes, puts, after, start_run}

-- a machine, from which states its step is within a limit, and from which it passes that, so that it isn't made
pub record Limited (S T : Type 0) : Type 1 where
  pub machine : Machine S T
  pub IsInside : S → Type 0
  pub IsPast : S → Type 0

-- how a run ended: it stands so, its next step would pass the limit, its steps are spent, or its last step's read or put failed.
-- `never` is of an end that no run of a machine has
pub data Close (T : Type 0) : Type 0 where
  stands : (t : T) → Close T
  refused : Close T
  spent : Close T
  unread : Close T
  unwritten : Close T
  never : Close T

-- a run goes on after each count of steps below n
abbrev pub IsGoingBelow : {S T : Type 0} → Machine S T → Run S T → ℕ → Type 0
IsGoingBelow m r n = (k : ℕ) → k < n → (after m k r).standing ≡ m.going

-- none of the first n steps of a run passes the limit
abbrev pub IsInsideBelow : {S T : Type 0} → Limited S T → Run S T → ℕ → Type 0
IsInsideBelow l r n = (k : ℕ) → k < n → l.IsInside (after l.machine k r).state

-- a run goes on below n steps, and stands so after n
pub record StandsAt {S T : Type 0} (m : Machine S T) (r : Run S T) (n : ℕ) (t : T) : Type 0 where
  pub below : IsGoingBelow m r n
  pub here : (after m n r).standing ≡ t

-- a run still goes on after all the steps that were allowed
pub record IsSpent {S T : Type 0} (m : Machine S T) (r : Run S T) (n limit : ℕ) : Type 0 where
  pub all : n ≡ limit
  pub going : StandsAt m r n m.going

-- a run goes on after n steps, fewer than were allowed, and its next step would pass the limit
pub record StopsBefore {S T : Type 0} (l : Limited S T) (r : Run S T) (n limit : ℕ) : Type 0 where
  pub fewer : n < limit
  pub going : StandsAt l.machine r n l.machine.going
  pub big : l.IsPast (after l.machine n r).state

-- a run comes to its step number n, which asks for a byte
pub record AsksAt {S T : Type 0} (m : Machine S T) (r : Run S T) (n : ℕ) : Type 0 where
  pub some : 0 < n
  pub below : IsGoingBelow m r n
  pub go : Option ℕ → S
  pub asks : m.step (after m (n - 1) r).state ≡ takes go

-- a run comes to its step number n, which puts a text
pub record PutsAt {S T : Type 0} (m : Machine S T) (r : Run S T) (n : ℕ) : Type 0 where
  pub some : 0 < n
  pub below : IsGoingBelow m r n
  pub text : Bytes
  pub then_state : S
  pub puts : m.step (after m (n - 1) r).state ≡ puts text then_state

-- what a close means of the run, of which n steps out of so many were made
abbrev pub ClosesSo : {S T : Type 0} → Limited S T → Close T → Run S T → ℕ → ℕ → Type 0
ClosesSo l (stands t) r n limit = StandsAt l.machine r n t
ClosesSo l refused r n limit = StopsBefore l r n limit
ClosesSo l spent r n limit = IsSpent l.machine r n limit
ClosesSo l unread r n limit = AsksAt l.machine r n
ClosesSo l unwritten r n limit = PutsAt l.machine r n
ClosesSo l never r n limit = ⊥

-- of which count of steps the input was taken: a read that failed took none
abbrev pub taken_by : {T : Type 0} → Close T → ℕ → ℕ
taken_by unread n = n - 1
taken_by _ n = n

-- a sink gained the output; where it failed, a beginning of it
abbrev pub HasPutBy : {T : Type 0} → Close T → Option Bytes → Option Bytes → Bytes → Type 0
HasPutBy unwritten before now output = GainedPart before now output
HasPutBy _ before now output = Gained before now output

-- a sink that failed gained a beginning of what n steps put, with all that was put before each of them that reads
pub record GainedSinceRead {S T : Type 0} (m : Machine S T) (r : Run S T) (n : ℕ) (before now : Option Bytes) : Type 0 where
  pub part : Bytes
  pub gained : Gained before now part
  pub begins : IsPrefix part (after m n r).output
  pub reads : (k : ℕ) → k ≤ n → AsksAt m r k → IsPrefix (after m k r).output part

-- what a run from a state came to by n steps of at most so many, told by an input that explains it, which is what was left at the
-- source where that is told: how it closed, before which no step passed the limit, what else holds of the run on that input, what is
-- left then, and what the sink gained, which is a beginning of all that the run puts within its steps
pub record RunsTo {S T : Type 0} (l : Limited S T) (s : S) (limit n : ℕ) (close : Close T) (Also : Bytes → Type 0) (left left_now before now : Option Bytes) : Type 0 where
  pub fed : Bytes
  pub told : ForSome left (λ bytes. fed ≡ bytes)
  pub end : ClosesSo l close (start_run l.machine.standing s fed) n limit
  pub held : IsInsideBelow l (start_run l.machine.standing s fed) n
  pub also : Also fed
  pub rest : left_now ≡ option_map (λ _. (after l.machine (taken_by close n) (start_run l.machine.standing s fed)).input) left
  pub output : HasPutBy close before now (after l.machine n (start_run l.machine.standing s fed)).output
  pub part : GainedPart before now (after l.machine limit (start_run l.machine.standing s fed)).output
  -- where the sink failed, it had gained all that was put before the last read
  pub unput : close ≡ unwritten → GainedSinceRead l.machine (start_run l.machine.standing s fed) n before now

-- what a run took and put that found no memory at some step within the limit: what the steps before that one took and put, none of which
-- passed the limit
pub record DoesPart {S T : Type 0} (l : Limited S T) (s : S) (limit : ℕ) (left left_now before now : Option Bytes) : Type 0 where
  pub fed : Bytes
  pub told : ForSome left (λ bytes. fed ≡ bytes)
  pub made : ℕ
  pub within : made ≤ limit
  pub going : IsGoingBelow l.machine (start_run l.machine.standing s fed) made
  pub held : IsInsideBelow l (start_run l.machine.standing s fed) made
  pub rest : left_now ≡ option_map (λ _. (after l.machine made (start_run l.machine.standing s fed)).input) left
  pub output : Gained before now (after l.machine made (start_run l.machine.standing s fed)).output

-- a run of a machine may close so
abbrev pub Occurs : {T : Type 0} → Close T → Type 0
Occurs never = ⊥
Occurs _ = Unit {0}
