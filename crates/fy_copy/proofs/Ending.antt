-- Runs of the copy rule over a source and a sink, with their greatest load.
use Rattle.std.proofs.Common.{◌≡◌, ℕ, ◌+◌, ◌-◌, ◌<◌, max, Bool, true, false, sym, ap, ◌∙◌, refl, arith, subst, Some}
use Rattle.fy_base.specs.Outside.{Bytes}
use Rattle.fy_base.specs.declared.data.Ending.{Ending}
use Rattle.fy_base.specs.declared.data.Ending.TheVariants as ends
use Rattle.fy_runs.specs.Runs as runs
use Rattle.fy_runs.specs.Exchange.{Outer, IsMade, Exchange, stopped, unwritten_by}
use Rattle.fy_runs.proofs.Runs.{after_zero, peak_zero, peak_more, measure_within}
use Rattle.fy_runs.proofs.Reached as runs_reached
use Rattle.fy_runs.proofs.Reached.{Steps, after_made}
use Rattle.fy_runs.proofs.Closes as runs_close
use Rattle.fy_runs.proofs.Closes.{Leaves}
use Rattle.fy_phrase.specs.Sizes.{fits}
use Rattle.fy_phrase.specs.Tree.{Tree}
use Rattle.fy_phrase.specs.Copy.{CopyState, CopyMove, goes, puts, takes, faults, sticks, Standing, going, ended, copy_step, standing_of, start, move_of, copy_machine, start_run, copy_after, load_of, peak_load}
use Rattle.fy_copy.specs.Moves.{IsTooBig, given}
use Rattle.fy_copy.specs.Seen.{Seen, WentOn, Waits}
use Rattle.fy_copy.specs.Ends.{held_machine, close_of, count_of, taken_after, RunsTo, peak_at_end, run_at_end}

-- ---- steps that were made

-- a focus within the limit doesn't pass it
within : (b : Bool) → b ≡ true → ¬ (b ≡ false)
within b is other = absurd (let no : true ≡ false = sym is ∙ other in cc)

pub made_by : (s : CopyState) (m : CopyMove) → standing_of s ≡ going → copy_step s ≡ m → ¬ IsTooBig m → IsMade held_machine s (move_of s m)
made_by s m on is small = record { going = on; move_is = ap (move_of s) is; inside = subst (λ x. ¬ IsTooBig x) (sym is) small }

pub went_by : (s t : Seen) → WentOn s t (goes t.state) → IsMade held_machine s.state (runs.goes t.state)
went_by s t on = made_by s.state (goes t.state) on.going on.move (within (fits t.state.focus) on.held)

pub put_by : (s t : Seen) (text : Bytes) → WentOn s t (puts text t.state) → IsMade held_machine s.state (runs.puts text t.state)
put_by s t text on = made_by s.state (puts text t.state) on.going on.move (within (fits t.state.focus) on.held)

pub waits_by : (s mid : Seen) → Waits s mid → IsMade held_machine s.state (runs.takes (given mid.state))
waits_by s mid waits = made_by s.state (takes (given mid.state)) waits.going waits.move (within (fits mid.state.focus) waits.held)

-- ---- the greatest load

-- a run that goes on or is at its end after n steps, with this greatest load
abbrev pub Reached : Tree → ℕ → CopyState → ℕ → Outer → Outer → Type 0
Reached p n s peak first now = runs_reached.Reached held_machine (start p) n (λ fed. peak ≡ peak_load p fed n) s first now

-- before the first step
pub reached_start : (p : Tree) (first : Outer) → first.over ≡ false → Reached p 0 (start p) 0 first first
reached_start p first fresh =
    runs_reached.reached_start held_machine (start p) (λ fed. 0 ≡ peak_load p fed 0) first
    (λ fed. sym (peak_zero load_of copy_machine (start_run p fed) ∙ ap (λ r. r.state.load) (after_zero copy_machine (start_run p fed))))
    (λ was. absurd (let no : true ≡ false = sym was ∙ fresh in cc))

pub peak_steps : (p : Tree) (n : ℕ) (s t : CopyState) (peak : ℕ) → Steps held_machine (start p) n (λ fed. peak ≡ peak_load p fed n) (λ fed. max peak t.load ≡ peak_load p fed (n + 1)) s t
peak_steps p n s t peak = record {
  by = λ fed stood next is.
      ap (λ k. max k t.load) is ∙ ap (λ x. max (peak_load p fed n) (load_of x)) (sym next) ∙ sym (peak_more load_of copy_machine (start_run p fed) n);
}

-- a step that faults or is stuck leaves the state
stop_keeps : (s now : CopyState) (t : Standing) (m : CopyMove) → move_of s m ≡ runs.stops t now → now ≡ s
stop_keeps s now t (goes u) is = cc
stop_keeps s now t (puts text u) is = cc
stop_keeps s now t (takes go) is = cc
stop_keeps s now t (faults kind at) is = cc
stop_keeps s now t sticks is = cc

stop_peak : (p : Tree) (fed : Bytes) (n peak : ℕ) → (copy_after p fed (n + 1)).state.load ≡ (copy_after p fed n).state.load → peak ≡ peak_load p fed n → peak ≡ peak_load p fed (n + 1)
stop_peak p fed n peak same is =
    let below = measure_within load_of copy_machine (start_run p fed) n n (omega arith) in
    let more = peak_more load_of copy_machine (start_run p fed) n in
    omega arith

-- the greatest load where the run ended
leaves_stopped : (p : Tree) (n : ℕ) (s now : CopyState) (peak : ℕ) (t : Standing) → IsMade held_machine s (runs.stops t now) → Leaves held_machine (start p) n (λ fed. peak ≡ peak_load p fed n) (λ fed. peak ≡ peak_load p fed (n + 1)) s
leaves_stopped p n s now peak t made = record {
  by = λ fed stood is.
      let next = after_made held_machine (start_run p fed) n s (runs.stops t now) stood made in
      stop_peak p fed n peak (ap (λ r. r.state.load) next ∙ ap load_of (stop_keeps s now t (copy_step s) made.move_is) ∙ ap load_of (sym stood.state_is)) is;
}

leaves_at : (p : Tree) (n m : ℕ) (s : CopyState) (peak : ℕ) → n ≡ m → Leaves held_machine (start p) n (λ fed. peak ≡ peak_load p fed n) (λ fed. peak ≡ peak_load p fed m) s
leaves_at p n m s peak same = record { by = λ fed stood is. is ∙ ap (λ k. peak_load p fed k) same }

leaves_unwritten : (p : Tree) (n : ℕ) (s t : CopyState) (peak : ℕ) (text : Bytes) → IsMade held_machine s (runs.puts text t) → Leaves held_machine (start p) n (λ fed. peak ≡ peak_load p fed n) (λ fed. max peak t.load ≡ peak_load p fed (n + 1)) s
leaves_unwritten p n s t peak text made = record {
  by = λ fed stood is.
      (peak_steps p n s t peak).by fed stood (ap (λ r. r.state) (after_made held_machine (start_run p fed) n s (runs.puts text t) stood made)) is;
}

leaves_by : (end : Ending) (p : Tree) (n : ℕ) (s t : CopyState) (peak : ℕ) (o u : Outer) → Exchange held_machine s t o u (count_of (Some end)) (Some (close_of end))
    → Leaves held_machine (start p) n (λ fed. peak ≡ peak_load p fed n) (λ fed. peak_at_end end peak t.load ≡ peak_load p fed (taken_after end (n + count_of (Some end)))) s
leaves_by ends.Ended p n s t peak o u x = leaves_at p n (n + 0) s peak (omega arith)
leaves_by ends.TooBig p n s t peak o u x = leaves_at p n (n + 0) s peak (omega arith)
leaves_by ends.InputFault p n s t peak o u x = leaves_at p n ((n + 1) - 1) s peak (omega arith)
leaves_by (ends.Fault kind at) p n s t peak o u (stopped _ now made same) = leaves_stopped p n s now peak _ made
leaves_by ends.Stuck p n s t peak o u (stopped _ now made same) = leaves_stopped p n s now peak _ made
leaves_by ends.OutputFault p n s t peak o u (unwritten_by text made left over gained) = leaves_unwritten p n s t peak text made
leaves_by ends.Exhausted p n s t peak o u x = elim x [ ]
leaves_by ends.Spent p n s t peak o u x = elim x [ ]
leaves_by ends.Gone p n s t peak o u x = elim x [ ]
leaves_by (ends.Trap _) p n s t peak o u x = elim x [ ]

-- ---- ends

-- the run ended in its step number n + 1, or before it
pub runs_end : (end : Ending) (p : Tree) (n limit : ℕ) (s t : CopyState) (peak : ℕ) (first o u : Outer) → n < limit → Reached p n s peak first o → Exchange held_machine s t o u (count_of (Some end)) (Some (close_of end))
    → RunsTo p limit (run_at_end end n peak t.load) first.left u.left first.held u.held
runs_end end p n limit s t peak first o u lt reached x =
    runs_close.runs_end held_machine (start p) n limit (count_of (Some end)) (close_of end) (λ fed. peak ≡ peak_load p fed n) (λ fed. peak_at_end end peak t.load ≡ peak_load p fed (taken_after end (n + count_of (Some end)))) s t first o u lt
    (leaves_by end p n s t peak o u x) reached x

-- all steps were made, and the run is at its end
pub runs_over : (p : Tree) (n limit : ℕ) (s : CopyState) (peak : ℕ) (first o : Outer) → n ≡ limit → Reached p n s peak first o → standing_of s ≡ ended
    → RunsTo p limit (record { end = ends.Ended; steps = limit; peak = peak }) first.left o.left first.held o.held
runs_over p n limit s peak first o same reached over =
    let there = subst (λ k. Reached p k s peak first o) same reached in
    runs_close.runs_over held_machine (start p) limit limit ended (λ fed. peak ≡ peak_load p fed limit) (λ fed. peak ≡ peak_load p fed limit) s first o (omega arith) (leaves_at p limit limit s peak refl) there over

-- or it goes on
pub runs_spent : (p : Tree) (n limit : ℕ) (s : CopyState) (peak : ℕ) (first o : Outer) → n ≡ limit → Reached p n s peak first o → standing_of s ≡ going
    → RunsTo p limit (record { end = ends.Spent; steps = limit; peak = peak }) first.left o.left first.held o.held
runs_spent p n limit s peak first o same reached goes_on =
    let there = subst (λ k. Reached p k s peak first o) same reached in
    runs_close.runs_spent held_machine (start p) limit limit (λ fed. peak ≡ peak_load p fed limit) (λ fed. peak ≡ peak_load p fed limit) s first o refl (leaves_at p limit limit s peak refl) there goes_on
