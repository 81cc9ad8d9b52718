-- Runs of the machine over a source and a sink.
use Rattle.std.proofs.Common.{◌≡◌, ℕ, ◌+◌, ◌<◌, ◌≤◌, sym, ap, ◌∙◌, arith, subst, Some, true, false}
use Rattle.std.specs.declared.option.Option.{Option}
use Rattle.fy_base.specs.Outside.{Bytes}
use Rattle.fy_base.specs.Arithmetic.{written_text}
use Rattle.fy_base.specs.declared.data.Datum.{Datum}
use Rattle.fy_base.specs.declared.data.PutKind.{PutKind}
use Rattle.fy_base.specs.declared.data.Ending.{Ending}
use Rattle.fy_base.specs.declared.data.Ending.TheVariants as ends
use Rattle.fy_runs.specs.Runs as runs
use Rattle.fy_runs.specs.Exchange.{Outer, IsMade, Exchange}
use Rattle.fy_runs.proofs.Reached as runs_reached
use Rattle.fy_runs.proofs.Reached.{Steps}
use Rattle.fy_runs.proofs.Closes as runs_close
use Rattle.fy_runs.proofs.Closes.{Leaves}
use Rattle.pe_code.specs.declared.code.PeCode.{PeCode}
use Rattle.pe_machine.specs.States.{PeState}
use Rattle.pe_machine.specs.Step.{PeMove, goes, puts, takes, pe_step}
use Rattle.pe_machine.specs.Run.{going, ended, standing_of, pe_start, move_of, load_after}
use Rattle.pe_machine.specs.Seen.{Seen, WentOn, Wrote, Waits, Halts, IsFurther, given, went_on_with}
use Rattle.pe_machine.specs.Ends.{word_machine, close_of, count_of, RunsTo}

-- a put tells the text that it is
pub wrote_text : (kind : PutKind) (v : Datum) (m : PeMove) (s t : Seen) (text : Bytes) → Wrote kind v m s t → written_text kind v ≡ Some text → WentOn m (puts text t.state) s t
wrote_text kind v m s t text put is =
    let same : put.text ≡ text = let e : Some put.text ≡ Some text = sym put.text_is ∙ is in cc in
    subst (λ b. WentOn m (puts b t.state) s t) same put.went

-- ---- steps that were made

pub made_by : (code : PeCode) (words : ℕ) (s : PeState) (m : PeMove) → standing_of s ≡ going → pe_step code s ≡ m → load_after m ≤ words → IsMade (word_machine code words) s (move_of s m)
made_by code words s m on is small = record { going = on; move_is = ap (move_of s) is; inside = subst (λ x. load_after x ≤ words) (sym is) small }

pub went_by : (code : PeCode) (s t : Seen) → WentOn (pe_step code s.state) (goes t.state) s t → IsMade (word_machine code s.limit) s.state (runs.goes t.state)
went_by code s t on = made_by code s.limit s.state (goes t.state) on.going on.move_is on.within

pub put_by : (code : PeCode) (s t : Seen) (text : Bytes) → WentOn (pe_step code s.state) (puts text t.state) s t → IsMade (word_machine code s.limit) s.state (runs.puts text t.state)
put_by code s t text on = made_by code s.limit s.state (puts text t.state) on.going on.move_is on.within

pub waits_by : (code : PeCode) (s mid : Seen) → Waits (pe_step code s.state) s mid → IsMade (word_machine code s.limit) s.state (runs.takes (given mid.state))
waits_by code s mid waits = made_by code s.limit s.state (takes (given mid.state)) waits.going waits.move_is waits.within

pub halts_by : (code : PeCode) (m : PeMove) (s t : Seen) → load_after m ≡ 0 → Halts (pe_step code s.state) m s t → IsMade (word_machine code s.limit) s.state (move_of s.state m)
halts_by code m s t none halts = made_by code s.limit s.state m halts.going halts.move_is (omega arith)

-- a step more was made, and the state goes on
pub went_further : (m n : PeMove) (s t : Seen) → WentOn m n s t → IsFurther s t
went_further m n s t on = record { steps = ap (λ x. x.steps) on.is; phase = λ was. ap (λ x. x.phase) on.is ∙ was; limit = ap (λ x. x.limit) on.is }

pub took_further : (byte : Option ℕ) (m : PeMove) (s mid t : Seen) → Waits m s mid → t ≡ went_on_with byte mid → IsFurther s t
took_further byte m s mid t waits is = record {
  steps = ap (λ x. x.steps) is ∙ ap (λ x. x.steps + 1) waits.is;
  phase = λ was. ap (λ x. x.phase) is;
  limit = ap (λ x. x.limit) is ∙ ap (λ x. x.limit) waits.is;
}

-- ---- ends

-- a run that goes on or is at its end after n steps
abbrev pub Reached : PeCode → ℕ → ℕ → PeState → Outer → Outer → Type 0
Reached code words n s first now = runs_reached.Reached (word_machine code words) pe_start n (λ fed. Unit {0}) s first now

-- before the first step
pub reached_start : (code : PeCode) (words : ℕ) (first : Outer) → first.over ≡ false → Reached code words 0 pe_start first first
reached_start code words first fresh =
    runs_reached.reached_start (word_machine code words) pe_start (λ fed. Unit {0}) first (λ fed. tt) (λ was. absurd (let no : true ≡ false = sym was ∙ fresh in cc))

pub steps : (code : PeCode) (words n : ℕ) (s t : PeState) → Steps (word_machine code words) pe_start n (λ fed. Unit {0}) (λ fed. Unit {0}) s t
steps code words n s t = record { by = λ fed stood next was. tt }

leaves : (code : PeCode) (words n : ℕ) (s : PeState) → Leaves (word_machine code words) pe_start n (λ fed. Unit {0}) (λ fed. Unit {0}) s
leaves code words n s = record { by = λ fed stood was. tt }

few_counted : (end : Ending) → count_of (Some end) ≤ 1
few_counted ends.Ended = omega arith
few_counted ends.Exhausted = omega arith
few_counted _ = omega arith

-- the run ended in its step number n + 1, or before it
pub runs_end : (end : Ending) (code : PeCode) (words n limit : ℕ) (s t : PeState) (first o u : Outer) → n < limit → Reached code words n s first o → Exchange (word_machine code words) s t o u (count_of (Some end)) (Some (close_of end))
    → RunsTo code words limit end first.left u.left first.held u.held
runs_end end code words n limit s t first o u lt reached x =
    let few = few_counted end in
    record {
      made = n + count_of (Some end);
      few = omega arith;
      run = runs_close.runs_end (word_machine code words) pe_start n limit (count_of (Some end)) (close_of end) (λ fed. Unit {0}) (λ fed. Unit {0}) s t first o u lt (leaves code words n s) reached x;
    }

-- all steps were made, and the run is at its end
pub runs_over : (code : PeCode) (words n limit : ℕ) (s : PeState) (first o : Outer) → n ≤ limit → Reached code words n s first o → standing_of s ≡ ended → RunsTo code words limit ends.Ended first.left o.left first.held o.held
runs_over code words n limit s first o le reached over = record {
  made = n;
  few = le;
  run = runs_close.runs_over (word_machine code words) pe_start n limit ended (λ fed. Unit {0}) (λ fed. Unit {0}) s first o le (leaves code words n s) reached over;
}

-- or it goes on
pub runs_spent : (code : PeCode) (words n limit : ℕ) (s : PeState) (first o : Outer) → n ≡ limit → Reached code words n s first o → standing_of s ≡ going → RunsTo code words limit ends.Spent first.left o.left first.held o.held
runs_spent code words n limit s first o all reached goes_on = record {
  made = n;
  few = omega arith;
  run = runs_close.runs_spent (word_machine code words) pe_start n limit (λ fed. Unit {0}) (λ fed. Unit {0}) s first o all (leaves code words n s) reached goes_on;
}
