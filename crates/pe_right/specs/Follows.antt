-- The code of a phrase does what the copy rule does, and is never without a step.
use Rattle.std.specs.Prelude.{ℕ, ◌+◌, ◌*◌, ◌≤◌, ◌≡◌, ◌≢◌, ◌⊎◌, ◌++◌, Option, Some}
use Rattle.fy_base.specs.declared.data.Datum.{Datum}
use Rattle.fy_base.specs.Outside.{Bytes}
use Rattle.fy_phrase.specs.declared.shapes.ShapeTable.{ShapeTable}
use Rattle.fy_phrase.specs.Tree.{Tree}
use Rattle.fy_phrase.specs.WellMade.{IsClosed, HasDepths}
use Rattle.fy_phrase.specs.Sizes.{nodes}
use Rattle.fy_phrase.specs.Copy.{copy_after}
use Rattle.fy_phrase.specs.Copy as copy
use Rattle.pe_code.specs.declared.code.PeCode.{PeCode}
use Rattle.pe_machine.specs.Run.{PeRun, Standing, going, ended, faulted, stuck, gone, pe_after}
use Rattle.pe_right.specs.Constants.{constant}
use Rattle.pe_right.specs.Entered.{Entering}
use Rattle.pe_right.specs.ReadsBack.{ReadsBack}
use Rattle.pe_right.specs.Right.{IsCodeOf}
use Rattle.pe_right.specs.Typed.{IsTableOf}

-- the two stand alike; what is stuck or gone is like nothing
abbrev pub StandAlike : Standing → copy.Standing → Type 0
StandAlike going t = t ≡ copy.going
StandAlike ended t = t ≡ copy.ended
StandAlike (faulted kind at) t = t ≡ copy.faulted kind at
StandAlike stuck t = ⊥
StandAlike gone t = ⊥

-- the like, where the machine may still have to finish a command with which the copy rule has ended
abbrev pub StandNearlyAlike : Standing → copy.Standing → Type 0
StandNearlyAlike going t = (t ≡ copy.going) ⊎ (t ≡ copy.ended)
StandNearlyAlike s t = StandAlike s t

-- where a run has faulted, its state isn't asked: the machine stands before a phrase that it evaluates in one step, and the copy rule within it
abbrev pub HasFaulted : Standing → Type 0
HasFaulted (faulted kind at) = Unit {0}
HasFaulted st = ⊥

-- the run of the machine is the run of the copy rule, and its load is at most the copy rule's
pub record RunReadsBack (handed : Tree → Option Datum) (p : Tree) (code : PeCode) (r : PeRun) (c : copy.CopyRun) : Type 0 where
  pub state : HasFaulted r.standing ⊎ ReadsBack handed p code r.state c.state
  pub standing : StandNearlyAlike r.standing c.standing
  pub input : r.input ≡ c.input
  pub output : r.output ≡ c.output
  pub load : r.state.load ≤ c.state.load

-- after n steps the machine is where the copy rule is after some number of steps, which a product bounds
pub record IsReached (handed : Tree → Option Datum) (p : Tree) (code : PeCode) (input : Bytes) (n : ℕ) : Type 0 where
  pub steps : ℕ
  pub few : steps ≤ n * (nodes p + 1)
  pub same : RunReadsBack handed p code (pe_after code input n) (copy_after p input steps)

-- one run is at least as far as another: it has put as much, and it stands alike, with the same output and rest of input, where the other is over
pub record IsAsFarAs (r : PeRun) (c : copy.CopyRun) : Type 0 where
  pub more : Bytes
  pub output : r.output ≡ c.output ++ more
  pub over : c.standing ≢ copy.going → StandAlike r.standing c.standing × (r.output ≡ c.output) × (r.input ≡ c.input)

-- the code, which hands data as told, follows the copy rule of the phrase, is as far after three times the steps and three more, and a step is always defined and finds its frames
pub record FollowsCopyRule (handed : Tree → Option Datum) (p : Tree) (code : PeCode) : Type 0 where
  pub reads_back : (input : Bytes) (n : ℕ) → IsReached handed p code input n
  pub keeps_up : (input : Bytes) (m : ℕ) → IsAsFarAs (pe_after code input (3 * (m + 1))) (copy_after p input m)
  pub never_stuck : (input : Bytes) (n : ℕ) → (pe_after code input n).standing ≢ stuck
  pub never_gone : (input : Bytes) (n : ℕ) → (pe_after code input n).standing ≢ gone

-- right code for a closed phrase and the table of an accepted derivation does so, where the data that are known are those of constants
abbrev pub RightCodeFollows : Type 0
RightCodeFollows =
    (handed : Tree → Option Datum) (straight : ℕ → Entering) (p : Tree) (table : ShapeTable) (code : PeCode) → ((q : Tree) (v : Datum) → handed q ≡ Some v → constant q ≡ Some v) →
    IsClosed p → HasDepths p → IsTableOf p table → IsCodeOf handed straight p table code → FollowsCopyRule handed p code
