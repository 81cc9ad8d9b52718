use Rattle.std.proofs.Common.{◌≡◌, ℕ, ◌+◌, false, List, Ok, Err, Some, None, refl, sym, ap, ◌∙◌, subst, arith}
use Rattle.std.specs.Prelude.{OnErr}
use Rattle.std.specs.Option.{option_map}
use Rattle.std.specs.declared.option.Option.{Option}
use Rattle.std.specs.declared.result.Result.{Result}
use Rattle.fy_base.specs.declared.data.Ending.{Ending}
use Rattle.fy_runs.specs.Exchange.{Outer, Exchange}
use Rattle.fy_runs.proofs.Reached.{reached_next}
use Rattle.fy_runs.proofs.Closes.{does_part}
use Rattle.pe_code.specs.declared.code.PeCode.{PeCode}
use Rattle.pe_machine.specs.States.{PeState}
use Rattle.pe_machine.specs.Run.{pe_start}
use Rattle.pe_machine.specs.Seen.{Seen, seen}
use Rattle.pe_machine.specs.Ends.{DoesPart, word_machine, close_of, count_of}
use Rattle.pe_machine.proofs.Ending.{Reached, reached_start, steps, runs_end, runs_over, runs_spent}
use Rattle.pe_machine.proofs.run.run_pe.Goals as goal

on_err : {T E : Type 0} (r : Result T E) (P : Type 0) → P → OnErr r P
on_err (Ok x) P p = tt
on_err (Err e) P p = p

-- an exchange of the machine with as many words, by the end that is known
exchange_with : (code : PeCode) (limit words : ℕ) (s t : PeState) (o u : Outer) (told end : Option Ending) → limit ≡ words → told ≡ end → Exchange (word_machine code limit) s t o u (count_of told) (option_map close_of told)
    → Exchange (word_machine code words) s t o u (count_of end) (option_map close_of end)
exchange_with code limit words s t o u told end same is exchange =
    subst (λ x. Exchange (word_machine code words) s t o u (count_of x) (option_map close_of x)) is (subst (λ n. Exchange (word_machine code n) s t o u (count_of told) (option_map close_of told)) same exchange)

pub returns-in_err-state-clause-memory : goal.returns-in_err-state-clause-memory
returns-in_err-state-clause-memory g c =
    let o : Outer = record { left = g.I.Source.left c.args.input.now; over = false; held = g.O.Sink.held c.args.output.now } in
    on_err c.from_residual.result (DoesPart c.args.code.now c.args.stack_words c.args.steps o.left o.left o.held o.held)
    (does_part (word_machine c.args.code.now c.args.stack_words) pe_start 0 c.args.steps (λ fed. Unit {0}) pe_start o o o.left o.held (omega arith) (reached_start c.args.code.now c.args.stack_words o refl) refl refl)

pub loop-k-init : goal.loop-k-init
loop-k-init g c =
    let o : Outer = record { left = g.I.Source.left c.args.input.now; over = false; held = g.O.Sink.held c.args.output.now } in
    let is = c.in_ok-state.ensures.starts in
    record {
      reached = subst (λ s. Reached c.args.code.now c.args.stack_words 0 s o o) (sym (ap (λ (x : Seen). x.state) is)) (reached_start c.args.code.now c.args.stack_words o refl);
      steps = ap (λ (x : Seen). x.steps) is;
      phase = ap (λ (x : Seen). x.phase) is;
      limit = ap (λ (x : Seen). x.limit) is;
      input_quiet = refl;
      output_quiet = refl;
    }

pub returns-in_err-end-clause-memory : goal.returns-in_err-end-clause-memory
returns-in_err-end-clause-memory g c =
    let left : Option (List ℕ) = g.I.Source.left c.turn.new.input in
    let now : Option (List ℕ) = g.O.Sink.held c.turn.new.output in
    on_err c.from_residual-in_err-end.result (DoesPart c.args.code.now c.args.stack_words c.args.steps (g.I.Source.left c.args.input.now) left (g.O.Sink.held c.args.output.now) now)
    (does_part (word_machine c.args.code.now c.args.stack_words) pe_start c.loop-k.k c.args.steps (λ fed. Unit {0}) _ _ _ left now (omega arith) c.loop-k.invariant.reached c.in_err-end.ensures.unread c.in_err-end.ensures.unwritten)

pub returns-in-Some-clause-did : goal.returns-in-Some-clause-did
returns-in-Some-clause-did g c =
    let first : Outer = record { left = g.I.Source.left c.args.input.now; over = false; held = g.O.Sink.held c.args.output.now } in
    let o : Outer = record { left = g.I.Source.left c.loop-k.input; over = c.loop-k.over; held = g.O.Sink.held c.loop-k.output } in
    let u : Outer = record { left = g.I.Source.left c.turn.new.input; over = c.turn.new.over; held = g.O.Sink.held c.turn.new.output } in
    let s : PeState = (seen c.loop-k.state).state in
    let t : PeState = (seen c.turn.new.state).state in
    runs_end c.in-Some.end c.args.code.now c.args.stack_words c.loop-k.k c.args.steps s t first o u c.loop-k-test.true c.loop-k.invariant.reached
    (exchange_with c.args.code.now _ c.args.stack_words s t o u _ (Some c.in-Some.end) c.loop-k.invariant.limit c.in-Some.is c.in_ok-end.ensures.did)

pub loop-k-preserved : goal.loop-k-preserved
loop-k-preserved g c =
    let first : Outer = record { left = g.I.Source.left c.args.input.now; over = false; held = g.O.Sink.held c.args.output.now } in
    let o : Outer = record { left = g.I.Source.left c.loop-k.input; over = c.loop-k.over; held = g.O.Sink.held c.loop-k.output } in
    let u : Outer = record { left = g.I.Source.left c.turn.new.input; over = c.turn.new.over; held = g.O.Sink.held c.turn.new.output } in
    let s : PeState = (seen c.loop-k.state).state in
    let t : PeState = (seen c.turn.new.state).state in
    let machine = word_machine c.args.code.now c.args.stack_words in
    let further = c.in_ok-end.ensures.further c.in_default.is in
    record {
      reached = reached_next machine pe_start c.loop-k.k (count_of None) (λ fed. Unit {0}) (λ fed. Unit {0}) s t first o u (steps c.args.code.now c.args.stack_words c.loop-k.k s t) c.loop-k.invariant.reached
          (exchange_with c.args.code.now _ c.args.stack_words s t o u _ None c.loop-k.invariant.limit c.in_default.is c.in_ok-end.ensures.did);
      steps = further.steps ∙ ap (λ (n : ℕ). n + 1) c.loop-k.invariant.steps;
      phase = further.phase c.loop-k.invariant.phase;
      limit = further.limit ∙ c.loop-k.invariant.limit;
      input_quiet = c.in_ok-end.ensures.input_quiet (λ fault. let going = c.in_default.is in cc) ∙ c.loop-k.invariant.input_quiet;
      output_quiet = c.in_ok-end.ensures.output_quiet (λ fault. let going = c.in_default.is in cc) ∙ c.loop-k.invariant.output_quiet;
    }

pub returns-then-is_over-clause-did : goal.returns-then-is_over-clause-did
returns-then-is_over-clause-did g c = runs_over _ _ c.loop-k.k c.args.steps _ _ _ (omega arith) c.loop-k.invariant.reached c.if-is_over.ensures

pub returns-clause-did : goal.returns-clause-did
returns-clause-did g c = runs_spent _ _ c.loop-k.k c.args.steps _ _ _ (omega arith) c.loop-k.invariant.reached c.if-is_over.ensures
