-- Machines that go step by step, and their runs on an input: the copy rule, the push-enter machine, the machine of items and others.
-- After the small-step semantics of CompCert, common/Smallstep.v: a machine is a record of its step, and what holds of its runs is said once.
use Rattle.std.specs.Prelude.{◌≡◌, ◌≢◌, ℕ, zero, suc, max, Bool, true, false, if◌then◌else◌, [], ◌++◌, drop, slice_get}
use Rattle.std.specs.declared.option.Option.{Option}
use Rattle.fy_base.specs.Outside.{Bytes}

-- where a step leads
pub data Move (S T : Type 0) : Type 0 where
  -- on to a state
  goes : (s : S) → Move S T
  -- bytes are put, and on to a state
  puts : (text : Bytes) (s : S) → Move S T
  -- the next byte of input is taken, or none at its end, and on to the state that it gives
  takes : (go : Option ℕ → S) → Move S T
  -- the run is over and stands so, in a state
  stops : (t : T) (s : S) → Move S T

-- a machine of states S, whose runs stand as T says
pub record Machine (S T : Type 0) : Type 0 where
  pub step : S → Move S T
  -- how a run stands that came to a state
  pub standing : S → T
  -- the one standing in which a run goes on, and its test
  pub going : T
  pub goes_on : T → Bool
  pub on : goes_on going ≡ true
  pub off : (t : T) → t ≢ going → goes_on t ≡ false

-- a run: the state, the rest of the input, the output so far, and how it stands
pub record Run (S T : Type 0) : Type 0 where
  pub state : S
  pub input : Bytes
  pub output : Bytes
  pub standing : T

-- what a step leads to, on the input that is left
abbrev pub settled : {S T : Type 0} → (S → T) → Move S T → Run S T → Run S T
settled standing (goes s) r = record r { state = s; standing = standing s }
settled standing (puts text s) r = record r { state = s; output = r.output ++ text; standing = standing s }
settled standing (takes go) r =
    let s = go (slice_get r.input 0) in record { state = s; input = drop 1 r.input; output = r.output; standing = standing s }
settled standing (stops t s) r = record r { state = s; standing = t }

-- one more step of a run that goes on; another stays
abbrev pub ticked : {S T : Type 0} → Machine S T → T → Run S T → Run S T
ticked m t r = if m.goes_on t then settled m.standing (m.step r.state) r else r

abbrev pub tick : {S T : Type 0} → Machine S T → Run S T → Run S T
tick m r = ticked m r.standing r

-- the run after n more steps
unfoldable pub after : {S T : Type 0} → Machine S T → ℕ → Run S T → Run S T
after m zero r = r
after m (suc n) r = tick m (after m n r)

-- a run from a state on an input
abbrev pub start_run : {S T : Type 0} → (S → T) → S → Bytes → Run S T
start_run standing s input = record { state = s; input = input; output = []; standing = standing s }

-- the greatest measure among the states after 0 to n steps
unfoldable pub peak : {S T : Type 0} → (S → ℕ) → Machine S T → Run S T → ℕ → ℕ
peak measure m r zero = measure (after m zero r).state
peak measure m r (suc n) = max (peak measure m r n) (measure (after m (suc n) r).state)
