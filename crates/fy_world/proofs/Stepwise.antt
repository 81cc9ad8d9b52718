-- Runs of push-enter code over a source and a sink, step by step, with their lines.
use Rattle.std.proofs.Common.{◌≡◌, ℕ, zero, suc, ◌+◌, ◌-◌, ◌<◌, ◌≤◌, true, false, List, [], ◌∷◌, ◌++◌, sym, ap, ◌∙◌, refl, arith, subst, append_assoc, Some, None}
use Rattle.std.proofs.lemmas.List.{append-nil}
use Rattle.std.specs.declared.option.Option.{Option}
use Rattle.fy_base.specs.Outside.{Bytes, IsPrefix, Gained, GainedPart}
use Rattle.fy_base.specs.declared.data.Ending.{Ending}
use Rattle.fy_base.specs.declared.data.Ending.TheVariants as ends
use Rattle.fy_runs.specs.Runs.{settled as settled_run}
use Rattle.fy_runs.specs.Ends as runs
use Rattle.fy_runs.specs.Ends.{taken_by, HasPutBy}
use Rattle.fy_runs.specs.Exchange.{Outer, Exchange}
use Rattle.fy_runs.proofs.Reached as runs_reached
use Rattle.fy_runs.proofs.Reached.{Steps}
use Rattle.fy_runs.proofs.Closes as runs_close
use Rattle.fy_runs.proofs.Closes.{Leaves, Begun, asks_next, puts_next, put_takes_none}
use Rattle.pe_code.specs.declared.code.PeCode.{PeCode}
use Rattle.pe_machine.specs.States.{PeState}
use Rattle.pe_machine.specs.Step.{PeMove, goes, puts, takes, faults, sticks, loses, pe_step}
use Rattle.pe_machine.specs.Run.{PeRun, ended, standing_of, pe_start, move_of, code_machine, start_run, pe_after}
use Rattle.pe_machine.specs.Seen.{address_of}
use Rattle.pe_machine.specs.Ends.{word_machine, close_of, count_of, AsksAt, PutsAt}
use Rattle.fy_world.specs.Steps.{line_after, step_text, step_lines, step_words}
use Rattle.fy_world.specs.Stepping.{IsStepEnd, IsLastEnd, text_put}

-- ---- lines

lines_suc : (code : PeCode) (names : List Bytes) (input : Bytes) (n : ℕ) → step_lines code names input (suc n) ≡ step_lines code names input n ++ line_after code names input n ∷ []
unfolding step_lines
lines_suc code names input n = refl

lines_zero : (code : PeCode) (names : List Bytes) (input : Bytes) → step_lines code names input 0 ≡ []
unfolding step_lines
lines_zero code names input = refl

pub lines_next : (code : PeCode) (names : List Bytes) (input : Bytes) (n : ℕ) → step_lines code names input (n + 1) ≡ step_lines code names input n ++ line_after code names input n ∷ []
lines_next code names input n = let e : n + 1 ≡ suc n = omega arith in ap (λ k. step_lines code names input k) e ∙ lines_suc code names input n

-- more lines
lines_by : (code : PeCode) (names : List Bytes) (input : Bytes) (n k : ℕ) → (more : List Bytes) × (step_lines code names input (n + k) ≡ step_lines code names input n ++ more)
lines_by code names input n zero = let e : n + 0 ≡ n = omega arith in ([], ap (λ m. step_lines code names input m) e ∙ sym (append-nil (step_lines code names input n)))
lines_by code names input n (suc k) =
    let e : n + suc k ≡ (n + k) + 1 = omega arith in
    let so_far = lines_by code names input n k in
    let line = line_after code names input (n + k) in (
      so_far.0 ++ line ∷ [],
      ap (λ m. step_lines code names input m) e ∙ lines_next code names input (n + k) ∙ ap (λ ls. ls ++ line ∷ []) so_far.1 ∙ append_assoc (step_lines code names input n) so_far.0 (line ∷ []),
    )

pub lines_grow : (code : PeCode) (names : List Bytes) (input : Bytes) (n m : ℕ) → n ≤ m → (more : List Bytes) × (step_lines code names input m ≡ step_lines code names input n ++ more)
lines_grow code names input n m le =
    let e : n + (m - n) ≡ m = omega arith in
    let P : ℕ → Type 0 = λ k. (more : List Bytes) × (step_lines code names input k ≡ step_lines code names input n ++ more) in
    subst P e (lines_by code names input n (m - n))

-- the lines with that of the step from a state
abbrev pub lines_with : PeCode → List Bytes → PeState → List Bytes → List Bytes
lines_with code names s lines = lines ++ step_text code names (address_of s.focus) ∷ []

lines_more : (code : PeCode) (names : List Bytes) (fed : Bytes) (n : ℕ) (s : PeState) (lines : List Bytes) → step_lines code names fed n ≡ lines → (pe_after code fed n).state ≡ s → step_lines code names fed (n + 1) ≡ lines_with code names s lines
lines_more code names fed n s lines are state =
    lines_next code names fed n ∙ ap (λ ls. ls ++ line_after code names fed n ∷ []) are ∙ ap (λ t. lines_with code names t lines) state

-- ---- steps

-- a run that goes on or is at its end after n steps with these lines
abbrev pub Reached : PeCode → List Bytes → ℕ → PeState → List Bytes → Outer → Outer → Type 0
Reached code names n s lines first now = runs_reached.Reached (word_machine code step_words) pe_start n (λ fed. step_lines code names fed n ≡ lines) s first now

pub reached_start : (code : PeCode) (names : List Bytes) (first : Outer) → first.over ≡ false → Reached code names 0 pe_start [] first first
reached_start code names first fresh =
    runs_reached.reached_start (word_machine code step_words) pe_start (λ fed. step_lines code names fed 0 ≡ []) first (λ fed. lines_zero code names fed) (λ was. absurd (let no : true ≡ false = sym was ∙ fresh in cc))

lines_steps : (code : PeCode) (names : List Bytes) (n : ℕ) (s t : PeState) (lines : List Bytes)
    → Steps (word_machine code step_words) pe_start n (λ fed. step_lines code names fed n ≡ lines) (λ fed. step_lines code names fed (n + 1) ≡ lines_with code names s lines) s t
lines_steps code names n s t lines = record { by = λ fed stood next are. lines_more code names fed n s lines are stood.state_is }

pub reached_next : (code : PeCode) (names : List Bytes) (n : ℕ) (s t : PeState) (lines : List Bytes) (first o u : Outer) → Reached code names n s lines first o → Exchange (word_machine code step_words) s t o u 1 None
    → Reached code names (n + 1) t (lines_with code names s lines) first u
reached_next code names n s t lines first o u reached x =
    runs_reached.reached_next (word_machine code step_words) pe_start n 1 (λ fed. step_lines code names fed n ≡ lines) (λ fed. step_lines code names fed (n + 1) ≡ lines_with code names s lines) s t first o u (lines_steps code names n s t lines) reached x

-- ---- ends

-- what a run that ended so came to, and its lines
pub record RunsOn (code : PeCode) (names : List Bytes) (limit : ℕ) (end : Ending) (lines : List Bytes) (left left_now before now : Option Bytes) : Type 0 where
  pub made : ℕ
  pub few : made ≤ limit
  pub run : runs.RunsTo (word_machine code step_words) pe_start limit made (close_of end) (λ fed. step_lines code names fed made ≡ lines) left left_now before now

-- the lines of a run that ended so in a step from a state, or before it
abbrev pub lines_at : Ending → PeCode → List Bytes → PeState → List Bytes → List Bytes
lines_at ends.Ended code names s lines = lines
lines_at ends.Exhausted code names s lines = lines
lines_at _ code names s lines = lines_with code names s lines

lines_still : (code : PeCode) (names : List Bytes) (n m : ℕ) (s : PeState) (lines : List Bytes) → n ≡ m → Leaves (word_machine code step_words) pe_start n (λ fed. step_lines code names fed n ≡ lines) (λ fed. step_lines code names fed m ≡ lines) s
lines_still code names n m s lines same = record { by = λ fed stood are. ap (λ k. step_lines code names fed k) (sym same) ∙ are }

lines_leave : (end : Ending) (code : PeCode) (names : List Bytes) (n : ℕ) (s : PeState) (lines : List Bytes)
    → Leaves (word_machine code step_words) pe_start n (λ fed. step_lines code names fed n ≡ lines) (λ fed. step_lines code names fed (n + count_of (Some end)) ≡ lines_at end code names s lines) s
lines_leave ends.Ended code names n s lines = lines_still code names n (n + 0) s lines (omega arith)
lines_leave ends.Exhausted code names n s lines = lines_still code names n (n + 0) s lines (omega arith)
lines_leave _ code names n s lines = record { by = λ fed stood are. lines_more code names fed n s lines are stood.state_is }

few_counted : (end : Ending) → count_of (Some end) ≤ 1
few_counted ends.Ended = omega arith
few_counted ends.Exhausted = omega arith
few_counted _ = omega arith

pub runs_end : (end : Ending) (code : PeCode) (names : List Bytes) (n limit : ℕ) (s t : PeState) (lines : List Bytes) (first o u : Outer) → n < limit → Reached code names n s lines first o
    → Exchange (word_machine code step_words) s t o u (count_of (Some end)) (Some (close_of end)) → RunsOn code names limit end (lines_at end code names s lines) first.left u.left first.held u.held
runs_end end code names n limit s t lines first o u lt reached x =
    let few = few_counted end in
    record {
      made = n + count_of (Some end);
      few = omega arith;
      run = runs_close.runs_end (word_machine code step_words) pe_start n limit (count_of (Some end)) (close_of end) (λ fed. step_lines code names fed n ≡ lines) (λ fed. step_lines code names fed (n + count_of (Some end)) ≡ lines_at end code names s lines) s t
          first o u lt (lines_leave end code names n s lines) reached x;
    }

-- all steps were made
pub runs_out : (code : PeCode) (names : List Bytes) (n limit : ℕ) (end : Ending) (s : PeState) (lines : List Bytes) (first o : Outer) → n ≡ limit → Reached code names n s lines first o → IsLastEnd end s
    → RunsOn code names limit end lines first.left o.left first.held o.held
runs_out code names n limit ends.Ended s lines first o same reached over = record {
  made = n;
  few = omega arith;
  run = runs_close.runs_over (word_machine code step_words) pe_start n limit ended (λ fed. step_lines code names fed n ≡ lines) (λ fed. step_lines code names fed n ≡ lines) s first o (omega arith) (lines_still code names n n s lines refl) reached over;
}
runs_out code names n limit ends.Spent s lines first o same reached goes_on = record {
  made = n;
  few = omega arith;
  run = runs_close.runs_spent (word_machine code step_words) pe_start n limit (λ fed. step_lines code names fed n ≡ lines) (λ fed. step_lines code names fed n ≡ lines) s first o same (lines_still code names n n s lines refl) reached goes_on;
}
runs_out code names n limit _ s lines first o same reached is = absurd is

-- the ends of steps take all of the input, and put all of the output
pub step_taken : (end : Ending) (n : ℕ) → IsStepEnd end → taken_by (close_of end) n ≡ n
step_taken ends.InputFault n kind = absurd kind
step_taken _ n kind = refl

pub step_put : (end : Ending) (before now : Option Bytes) (output : Bytes) → IsStepEnd end → HasPutBy (close_of end) before now output → Gained before now output
step_put ends.OutputFault before now output kind put = absurd kind
step_put _ before now output kind put = put

-- ---- a step that was stopped

-- what the run has made and would make with that step
abbrev pub StopsIn : PeCode → List Bytes → PeState → List Bytes → ℕ → Option Bytes → Option Bytes → Option Bytes → Option Bytes → Type 0
StopsIn code names s lines n left left_now before now = Begun (word_machine code step_words) pe_start n (λ fed. step_lines code names fed n ≡ lines) s left left_now before now

-- its lines with that of the step
pub lines_in : (code : PeCode) (names : List Bytes) (s : PeState) (lines : List Bytes) (n : ℕ) (left left_now before now : Option Bytes) (stops : StopsIn code names s lines n left left_now before now)
    → step_lines code names stops.fed (n + 1) ≡ lines_with code names s lines
lines_in code names s lines n left left_now before now stops = lines_more code names stops.fed n s lines stops.also stops.state_is

put_out : (m : PeMove) (s : PeState) (r : PeRun) → (settled_run standing_of (move_of s m) r).output ≡ r.output ++ text_put m
put_out (goes t) s r = sym (append-nil r.output)
put_out (puts text t) s r = refl
put_out (takes go) s r = sym (append-nil r.output)
put_out (faults kind at) s r = sym (append-nil r.output)
put_out sticks s r = sym (append-nil r.output)
put_out loses s r = sym (append-nil r.output)

-- a part of its text was put
pub begins_in : (code : PeCode) (names : List Bytes) (s : PeState) (lines : List Bytes) (n : ℕ) (left left_now before held now : Option Bytes) (stops : StopsIn code names s lines n left left_now before held) (put : GainedPart held now (text_put (pe_step code s)))
    → IsPrefix ((pe_after code stops.fed n).output ++ put.part) (pe_after code stops.fed (n + 1)).output
begins_in code names s lines n left left_now before held now stops put =
    let output = (pe_after code stops.fed n).output in
    record {
      rest = put.begins.rest;
      is = ap (λ (r : PeRun). r.output) stops.next ∙ put_out (pe_step code s) s (pe_after code stops.fed n) ∙ ap (λ b. output ++ b) put.begins.is ∙ sym (append_assoc output put.part put.begins.rest);
    }

pub asks_in : (code : PeCode) (names : List Bytes) (s : PeState) (lines : List Bytes) (n : ℕ) (left left_now before now : Option Bytes) (stops : StopsIn code names s lines n left left_now before now) (go : Option ℕ → PeState) → pe_step code s ≡ takes go
    → AsksAt code stops.fed (n + 1)
asks_in code names s lines n left left_now before now stops go asks = asks_next (code_machine code) (start_run stops.fed) n s go stops.going stops.state_is (ap (move_of s) asks)

pub puts_in : (code : PeCode) (names : List Bytes) (s : PeState) (lines : List Bytes) (n : ℕ) (left left_now before now : Option Bytes) (stops : StopsIn code names s lines n left left_now before now) (text : Bytes) (next : PeState) → pe_step code s ≡ puts text next
    → PutsAt code stops.fed (n + 1)
puts_in code names s lines n left left_now before now stops text next step = puts_next (code_machine code) (start_run stops.fed) n s text next stops.going stops.state_is (ap (move_of s) step)

-- a step that puts takes none
pub untaken_in : (code : PeCode) (names : List Bytes) (s : PeState) (lines : List Bytes) (n : ℕ) (left left_now before now : Option Bytes) (stops : StopsIn code names s lines n left left_now before now) (text : Bytes) (next : PeState) → pe_step code s ≡ puts text next
    → (pe_after code stops.fed (n + 1)).input ≡ (pe_after code stops.fed n).input
untaken_in code names s lines n left left_now before now stops text next step =
    let same : (n + 1) - 1 ≡ n = omega arith in
    put_takes_none (code_machine code) (start_run stops.fed) (n + 1) (puts_in code names s lines n left left_now before now stops text next step) ∙ ap (λ k. (pe_after code stops.fed k).input) same
