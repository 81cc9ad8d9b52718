-- Runs of the push-enter machine.
use Rattle.std.specs.Prelude.{◌≡◌, ◌≢◌, ℕ, Bool, true, false, List, [], ◌∷◌, None}
use Rattle.fy_base.specs.declared.data.Place.{Place}
use Rattle.fy_base.specs.declared.data.FaultKind.{FaultKind}
use Rattle.fy_base.specs.Outside.{Bytes}
use Rattle.std.proofs.Common.{refl}
use Rattle.fy_runs.specs.Runs as runs
use Rattle.fy_runs.specs.Runs.{Move, Machine, Run}
use Rattle.pe_code.specs.declared.code.PeCode.{PeCode}
use Rattle.pe_machine.specs.States.{Focus, code_at, value, completed, Held, PeState}
use Rattle.pe_machine.specs.Step.{PeMove, goes, puts, takes, faults, sticks, loses, pe_step}

-- the program's entry, with no frame, no context and no load
abbrev pub pe_start : PeState
pe_start = record { focus = code_at (record { address = 0; frame = None }); contexts = []; frames = []; next = 0; load = 0 }

-- how a run stands
pub data Standing : Type 0 where
  going : Standing
  ended : Standing
  faulted : (kind : FaultKind) (at : Place) → Standing
  stuck : Standing
  gone : Standing

-- a finished command without a context is the end; that isn't a step
abbrev pub standing_at : Focus → List Held → Standing
standing_at completed [] = ended
standing_at completed (c ∷ cs) = going
standing_at (code_at p) cs = going
standing_at (value v) cs = going

abbrev pub standing_of : PeState → Standing
standing_of s = standing_at s.focus s.contexts

-- the test of a run that goes on
abbrev pub goes_on : Standing → Bool
goes_on going = true
goes_on _ = false

pub off_going : (t : Standing) → t ≢ going → goes_on t ≡ false
off_going going other = absurd (other refl)
off_going _ other = refl

-- a step in the words of all machines: one that ends the run leaves the state
abbrev pub move_of : PeState → PeMove → Move PeState Standing
move_of old (goes s) = runs.goes s
move_of old (puts text s) = runs.puts text s
move_of old (takes go) = runs.takes go
move_of old (faults kind at) = runs.stops (faulted kind at) old
move_of old sticks = runs.stops stuck old
move_of old loses = runs.stops gone old

-- a code's machine among all machines
abbrev pub code_machine : PeCode → Machine PeState Standing
code_machine code = record { step = λ s. move_of s (pe_step code s); standing = standing_of; going = going; goes_on = goes_on; on = refl; off = off_going }

-- a run: the state, the rest of the input, the output so far, and how it stands
abbrev pub PeRun : Type 0
PeRun = Run PeState Standing

-- what a step leads to, on the input that is left
abbrev pub settled : PeMove → PeRun → PeRun
settled m r = runs.settled standing_of (move_of r.state m) r

-- one more step of a run that is going; another stays
abbrev pub ticked : PeCode → Standing → PeRun → PeRun
ticked code t r = runs.ticked (code_machine code) t r

abbrev pub tick : PeCode → PeRun → PeRun
tick code r = runs.tick (code_machine code) r

-- the run after n more steps
abbrev pub after_more : PeCode → ℕ → PeRun → PeRun
after_more code n r = runs.after (code_machine code) n r

abbrev pub start_run : Bytes → PeRun
start_run input = runs.start_run standing_of pe_start input

-- the run of the code on an input after n steps, however large its stack
abbrev pub pe_after : PeCode → Bytes → ℕ → PeRun
pe_after code input n = after_more code n (start_run input)

-- the load of a state
abbrev pub load_of : PeState → ℕ
load_of s = s.load

-- the greatest load among the states 0 to n
abbrev pub pe_peak_load : PeCode → Bytes → ℕ → ℕ
pe_peak_load code input n = runs.peak load_of (code_machine code) (start_run input) n

-- the load that a step leads to; where it leads to no state, none
abbrev pub load_after : PeMove → ℕ
load_after (goes s) = s.load
load_after (puts text s) = s.load
load_after (takes go) = (go None).load
load_after (faults kind at) = 0
load_after sticks = 0
load_after loses = 0
