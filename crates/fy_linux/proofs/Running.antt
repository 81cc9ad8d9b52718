-- Processes, step by step.
use Rattle.std.proofs.Common.{◌≡◌, ◌≢◌, ℕ, suc, ◌+◌, Bool, true, false, if◌then◌else◌, List, [], ◌∷◌, ◌++◌, length, Option, Some, None, refl, sym, ap, ◌∙◌, subst, arith, nat_eq}
use Rattle.std.specs.Prelude.{zero, ◌&&◌, ◌||◌, nat_lt}
use Rattle.std.specs.Str.{bytes_eq}
use Rattle.std.proofs.lemmas.List.{append-nil}
use Rattle.fy_base.specs.Outside.{Bytes, IsPrefix}
use Rattle.fy_runs.proofs.Outer.{prefix_more}
use Rattle.rv_insn.specs.declared.events.Event.{Event}
use Rattle.rv_insn.specs.declared.events.Event.TheVariants.{Going, Put, WantByte, Ended, Fault, Exhausted, Trap}
use Rattle.rv_insn.specs.Program.{Program, stack_start}
use Rattle.rv_insn.specs.Step.{Core, reg, instruction_step}
use Rattle.rv_insn.specs.Memory.{lies_in}
use Rattle.fy_linux.specs.Laws.{Grows}
use Rattle.fy_linux.specs.Process.{Process, System, Standing, returned, running, left, undefined, Answer, moves, fails, readable, lost, leaves, read_to, read_call, gain, write_from, write_of, ignore_of, ignore_call, ignoring, system_call, calls_next, went, process_step, ticked_from, tick, process_after}

pub after_zero : (program : Program) (system : System) (p : Process) → process_after program system 0 p ≡ p
unfolding process_after
after_zero program system p = refl

pub after_suc : (program : Program) (system : System) (n : ℕ) (p : Process) → process_after program system (suc n) p ≡ tick program system (process_after program system n p)
unfolding process_after
after_suc program system n p = refl

pub after_both : (program : Program) (system : System) (n m : ℕ) (p : Process) → process_after program system (n + m) p ≡ process_after program system m (process_after program system n p)
after_both program system n zero p = let e : n + 0 ≡ n = omega arith in ap (λ k. process_after program system k p) e ∙ sym (after_zero program system (process_after program system n p))
after_both program system n (suc m) p =
    let e : n + suc m ≡ suc (n + m) = omega arith in
    ap (λ k. process_after program system k p) e
    ∙ after_suc program system (n + m) p
    ∙ ap (λ q. tick program system q) (after_both program system n m p)
    ∙ sym (after_suc program system m (process_after program system n p))

-- ---- one that doesn't run

stays_from : (standing : Standing) (program : Program) (system : System) (p : Process) → standing ≢ running → ticked_from standing program system p ≡ p
stays_from running program system p other = absurd (other refl)
stays_from (left status) program system p other = refl
stays_from undefined program system p other = refl

pub stays : (program : Program) (system : System) (n : ℕ) (p : Process) → p.standing ≢ running → process_after program system n p ≡ p
stays program system zero p other = after_zero program system p
stays program system (suc n) p other = after_suc program system n p ∙ ap (λ q. tick program system q) (stays program system n p other) ∙ stays_from p.standing program system p other

-- ---- what was written grows

prefix_same : (a b : Bytes) → b ≡ a → IsPrefix a b
prefix_same a b same = record { rest = []; is = same ∙ sym (append-nil a) }

prefix_appended : (a b : Bytes) → IsPrefix a (a ++ b)
prefix_appended a b = record { rest = b; is = refl }

grows_same : (p q : Process) → q.out ≡ p.out → q.err ≡ p.err → Grows p q
grows_same p q out err = record { out = prefix_same p.out q.out out; err = prefix_same p.err q.err err }

grows_if : (b : Bool) (p x y : Process) → Grows p x → Grows p y → Grows p (if b then x else y)
grows_if true p x y first second = first
grows_if false p x y first second = second

read_grows : (address asked : ℕ) (answer : Answer) (p : Process) → Grows p (read_to address asked answer p)
read_grows address asked (moves count) p = grows_same p _ refl refl
read_grows address asked (fails error) p = grows_same p _ refl refl

gain_grows : (b : Bool) (bytes : Bytes) (p : Process) (core : Core) (calls : ℕ)
    → Grows p (record (if b then record p { out = p.out ++ bytes } else record p { err = p.err ++ bytes }) { core = core; calls = calls })
gain_grows true bytes p core calls = record { out = prefix_appended p.out bytes; err = prefix_same p.err p.err refl }
gain_grows false bytes p core calls = record { out = prefix_same p.out p.out refl; err = prefix_appended p.err bytes }

written_grows : (file : ℕ) (bytes : Bytes) (answer : Answer) (p : Process) → Grows p (write_from file bytes answer p)
written_grows file bytes (moves count) p = gain_grows (nat_eq file 1) _ p _ _
written_grows file bytes (fails error) p = grows_same p _ refl refl

write_grows : (system : System) (file : ℕ) (found : Option Bytes) (p : Process) → Grows p (write_of system file found p)
write_grows system file None p = grows_same p _ refl refl
write_grows system file (Some bytes) p =
    grows_if (nat_lt 0 (length bytes) && (nat_eq file 1 || nat_eq file 2)) p (write_from file bytes (system p.calls) p) (lost p) (written_grows file bytes (system p.calls) p) (grows_same p (lost p) refl refl)

ignore_grows : (found : Option Bytes) (p : Process) → Grows p (ignore_of found p)
ignore_grows None p = grows_same p _ refl refl
ignore_grows (Some action) p =
    let done : Process = record p { core = returned 0 p.core } in
    grows_if (bytes_eq action ignoring) p done (lost p) (grows_same p done refl refl) (grows_same p (lost p) refl refl)

read_call_grows : (system : System) (file address asked : ℕ) (p : Process) → Grows p (read_call system file address asked p)
read_call_grows system file address asked p =
    grows_if (nat_eq file 0 && (nat_lt 0 asked && lies_in stack_start (length p.core.stack) address asked)) p (read_to address asked (system p.calls) p) (lost p)
    (read_grows address asked (system p.calls) p) (grows_same p (lost p) refl refl)

ignore_call_grows : (program : Program) (p : Process) → Grows p (ignore_call program p)
ignore_call_grows program p =
    grows_if (nat_eq (reg p.core 10) 13 && (nat_eq (reg p.core 12) 0 && nat_eq (reg p.core 13) 8)) p (ignore_of (readable program p.core (reg p.core 11) 24) p) (lost p)
    (ignore_grows (readable program p.core (reg p.core 11) 24) p) (grows_same p (lost p) refl refl)

call_grows : (program : Program) (system : System) (p : Process) → Grows p (system_call program system p)
unfolding system_call
call_grows program system p =
    let n = reg p.core 17 in
    let leaving : Process = leaves (reg p.core 10) p in
    let reading = read_call system (reg p.core 10) (reg p.core 11) (reg p.core 12) p in
    let writing = write_of system (reg p.core 10) (readable program p.core (reg p.core 11) (reg p.core 12)) p in
    let ignoring_it = ignore_call program p in
    grows_if (nat_eq n 94) p leaving _ (grows_same p leaving refl refl)
    (grows_if (nat_eq n 63) p reading _ (read_call_grows system (reg p.core 10) (reg p.core 11) (reg p.core 12) p)
    (grows_if (nat_eq n 64) p writing _ (write_grows system (reg p.core 10) (readable program p.core (reg p.core 11) (reg p.core 12)) p)
    (grows_if (nat_eq n 134) p ignoring_it (lost p) (ignore_call_grows program p) (grows_same p (lost p) refl refl))))

went_grows : (event : Event) (core : Core) (p : Process) → Grows p (went event core p)
went_grows Going core p = grows_same p _ refl refl
went_grows (Put byte) core p = grows_same p _ refl refl
went_grows WantByte core p = grows_same p _ refl refl
went_grows Ended core p = grows_same p _ refl refl
went_grows (Fault kind place) core p = grows_same p _ refl refl
went_grows Exhausted core p = grows_same p _ refl refl
went_grows (Trap kind) core p = grows_same p _ refl refl

step_grows : (program : Program) (system : System) (p : Process) → Grows p (process_step program system p)
unfolding process_step
step_grows program system p =
    grows_if (calls_next program p.core.pc) p (system_call program system p) (went (instruction_step program p.core).event (instruction_step program p.core).core p) (call_grows program system p) (went_grows (instruction_step program p.core).event (instruction_step program p.core).core p)

tick_grows : (standing : Standing) (program : Program) (system : System) (p : Process) → Grows p (ticked_from standing program system p)
tick_grows running program system p = step_grows program system p
tick_grows (left status) program system p = grows_same p _ refl refl
tick_grows undefined program system p = grows_same p _ refl refl

grows_more : (p q r : Process) → Grows p q → Grows q r → Grows p r
grows_more p q r first second = record { out = prefix_more p.out q.out r.out first.out second.out; err = prefix_more p.err q.err r.err first.err second.err }

grows_from : (program : Program) (system : System) (n : ℕ) (p : Process) → Grows p (process_after program system n p)
grows_from program system zero p = let P : Process → Type 0 = λ q. Grows p q in subst P (sym (after_zero program system p)) (grows_same p p refl refl)
grows_from program system (suc n) p =
    let q = process_after program system n p in
    let P : Process → Type 0 = λ r. Grows p r in
    subst P (sym (after_suc program system n p)) (grows_more p q (tick program system q) (grows_from program system n p) (tick_grows q.standing program system q))

pub grows : (program : Program) (system : System) (n m : ℕ) (p : Process) → Grows (process_after program system n p) (process_after program system (n + m) p)
grows program system n m p =
    let q = process_after program system n p in
    let P : Process → Type 0 = λ r. Grows q r in
    subst P (sym (after_both program system n m p)) (grows_from program system m q)
