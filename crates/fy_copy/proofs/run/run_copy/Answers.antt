use Rattle.std.proofs.Common.{◌≡◌, ℕ, ◌+◌, max, false, List, Ok, Err, None, refl, sym, ap, ◌∙◌, subst, arith}
use Rattle.std.specs.Prelude.{OnErr}
use Rattle.std.specs.Option.{option_map}
use Rattle.std.specs.declared.option.Option.{Option}
use Rattle.std.specs.declared.result.Result.{Result}
use Rattle.fy_base.specs.declared.data.Ending.{Ending}
use Rattle.fy_runs.specs.Exchange.{Outer, Exchange}
use Rattle.fy_runs.proofs.Reached.{reached_next}
use Rattle.fy_runs.proofs.Closes.{does_part}
use Rattle.fy_phrase.specs.Tree.{Tree}
use Rattle.fy_phrase.specs.Copy.{CopyState, start, peak_load}
use Rattle.fy_phrase.specs.Reads.{reads}
use Rattle.fy_copy.specs.Seen.{Seen, seen}
use Rattle.fy_copy.specs.Ends.{DoesPart, RunsTo, close_of, count_of, held_machine, run_at_end}
use Rattle.fy_copy.proofs.Ending.{Reached, reached_start, peak_steps, runs_end, runs_over, runs_spent}
use Rattle.fy_copy.proofs.run.run_copy.Goals as goal

on_err : {T E : Type 0} (r : Result T E) (P : Type 0) → P → OnErr r P
on_err (Ok x) P p = tt
on_err (Err e) P p = p

pub returns-in_err-state-clause-memory : goal.returns-in_err-state-clause-memory
returns-in_err-state-clause-memory g c =
    let p : Tree = reads c.args.p.now in
    let o : Outer = record { left = g.I.Source.left c.args.input.now; over = false; held = g.O.Sink.held c.args.output.now } in
    on_err c.from_residual.result (DoesPart p c.args.steps o.left o.left o.held o.held)
    (does_part held_machine (start p) 0 c.args.steps (λ fed. 0 ≡ peak_load p fed 0) (start p) o o o.left o.held (omega arith) (reached_start p o refl) refl refl)

pub loop-k-init : goal.loop-k-init
loop-k-init g c =
    let p : Tree = reads c.args.p.now in
    let o : Outer = record { left = g.I.Source.left c.args.input.now; over = false; held = g.O.Sink.held c.args.output.now } in
    let is = c.in_ok-state.ensures in
    record {
      reached = subst (λ s. Reached p 0 s 0 o o) (sym (ap (λ (x : Seen). x.state) is)) (reached_start p o refl);
      steps = ap (λ (x : Seen). x.steps) is;
      phase = ap (λ (x : Seen). x.phase) is;
      input_quiet = refl;
      output_quiet = refl;
    }

pub returns-in_err-end-clause-memory : goal.returns-in_err-end-clause-memory
returns-in_err-end-clause-memory g c =
    let p : Tree = reads c.args.p.now in
    let left : Option (List ℕ) = g.I.Source.left c.turn.new.input in
    let now : Option (List ℕ) = g.O.Sink.held c.turn.new.output in
    on_err c.from_residual-in_err-end.result (DoesPart p c.args.steps (g.I.Source.left c.args.input.now) left (g.O.Sink.held c.args.output.now) now)
    (does_part held_machine (start p) c.loop-k.k c.args.steps (λ fed. c.loop-k.peak ≡ peak_load p fed c.loop-k.k) _ _ _ left now (omega arith) c.loop-k.invariant.reached c.in_err-end.ensures.unread c.in_err-end.ensures.unwritten)

pub returns-in-Some-clause-did : goal.returns-in-Some-clause-did
returns-in-Some-clause-did g c =
    let p : Tree = reads c.args.p.now in
    let first : Outer = record { left = g.I.Source.left c.args.input.now; over = false; held = g.O.Sink.held c.args.output.now } in
    let o : Outer = record { left = g.I.Source.left c.loop-k.input; over = c.loop-k.over; held = g.O.Sink.held c.loop-k.output } in
    let u : Outer = record { left = g.I.Source.left c.turn.new.input; over = c.turn.new.over; held = g.O.Sink.held c.turn.new.output } in
    let s : CopyState = (seen c.loop-k.state).state in
    let t : CopyState = (seen c.turn.new.state).state in
    subst (λ done. RunsTo p c.args.steps done first.left u.left first.held u.held)
    (sym (c.run_ended.ensures ∙ ap (λ (load : ℕ). run_at_end c.in-Some.end c.loop-k.k c.loop-k.peak load) c.load_of.ensures))
    (runs_end c.in-Some.end p c.loop-k.k c.args.steps s t c.loop-k.peak first o u c.loop-k-test.true c.loop-k.invariant.reached
    (subst (λ (end : Option Ending). Exchange held_machine s t o u (count_of end) (option_map close_of end)) c.in-Some.is c.in_ok-end.ensures.did))

pub loop-k-preserved : goal.loop-k-preserved
loop-k-preserved g c =
    let p : Tree = reads c.args.p.now in
    let first : Outer = record { left = g.I.Source.left c.args.input.now; over = false; held = g.O.Sink.held c.args.output.now } in
    let o : Outer = record { left = g.I.Source.left c.loop-k.input; over = c.loop-k.over; held = g.O.Sink.held c.loop-k.output } in
    let u : Outer = record { left = g.I.Source.left c.turn.new.input; over = c.turn.new.over; held = g.O.Sink.held c.turn.new.output } in
    let s : CopyState = (seen c.loop-k.state).state in
    let t : CopyState = (seen c.turn.new.state).state in
    let k = c.loop-k.k in
    let peak = c.loop-k.peak in
    let further = c.in_ok-end.ensures.further c.in_default.is in
    record {
      reached = subst (λ x. Reached p (k + 1) t x first u) (sym (c.max-peak.ensures ∙ ap (λ (load : ℕ). max peak load) c.load_of-in-loop-k.ensures))
          (reached_next held_machine (start p) k (count_of None) (λ fed. peak ≡ peak_load p fed k) (λ fed. max peak t.load ≡ peak_load p fed (k + 1)) s t first o u (peak_steps p k s t peak) c.loop-k.invariant.reached
          (subst (λ (end : Option Ending). Exchange held_machine s t o u (count_of end) (option_map close_of end)) c.in_default.is c.in_ok-end.ensures.did));
      steps = further.steps ∙ ap (λ (n : ℕ). n + 1) c.loop-k.invariant.steps;
      phase = further.phase;
      input_quiet = c.in_ok-end.ensures.input_quiet (λ fault. let going = c.in_default.is in cc) ∙ c.loop-k.invariant.input_quiet;
      output_quiet = c.in_ok-end.ensures.output_quiet (λ fault. let going = c.in_default.is in cc) ∙ c.loop-k.invariant.output_quiet;
    }

pub returns-then-is_over-clause-did : goal.returns-then-is_over-clause-did
returns-then-is_over-clause-did g c = runs_over _ c.loop-k.k c.args.steps _ _ _ _ (omega arith) c.loop-k.invariant.reached c.if-is_over.ensures

pub returns-clause-did : goal.returns-clause-did
returns-clause-did g c = runs_spent _ c.loop-k.k c.args.steps _ _ _ _ (omega arith) c.loop-k.invariant.reached c.if-is_over.ensures
