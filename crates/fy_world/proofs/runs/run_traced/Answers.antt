use Rattle.std.proofs.Common.{◌∙◌, ◌++◌, refl, sym, ap, subst, map, Some, inl, inr, List}
use Rattle.fy_base.specs.Outside.{Bytes}
use Rattle.fy_build.specs.Shown.{RunEnd}
use Rattle.rv_machine.specs.Run.{going_world}
use Rattle.rv_machine.specs.declared.watch.Fetched.{Fetched}
use Rattle.fy_world.specs.Note.{texts}
use Rattle.fy_world.specs.Shown.{shown}
use Rattle.fy_world.specs.Runs.{end_notes}
use Rattle.fy_world.specs.Working.{AreFetched}
use Rattle.fy_world.specs.declared.world.Stop.TheVariants.{Input, Output}
use Rattle.fy_world.proofs.Counting.{faulted_after}
use Rattle.fy_world.proofs.Executing.{run_faulted, run_told, run_told_part}
use Rattle.fy_world.proofs.Tracing.{trace_is, are_fetched}
use Rattle.fy_world.proofs.runs.run_traced.Goals as goal

pub returns-in-InputFault-clause-run : goal.returns-in-InputFault-clause-run
returns-in-InputFault-clause-run g c =
    inr (run_faulted _ _ c.args.steps (Some c.args.count) _ (g.W.World.holds c.run-run.new.self) Input c.run-run.result _ (inl (refl, c.in-InputFault.is)) c.run-run.ensures.steps c.run-run.ensures.did.runs c.run-run.ensures.rest)

pub returns-in-OutputFault-clause-run : goal.returns-in-OutputFault-clause-run
returns-in-OutputFault-clause-run g c =
    inr (run_faulted _ _ c.args.steps (Some c.args.count) _ (g.W.World.holds c.run-run.new.self) Output c.run-run.result _ (inr (refl, c.in-OutputFault.is)) c.run-run.ensures.steps c.run-run.ensures.did.runs c.run-run.ensures.rest)

pub returns-in-Ok-tell_traced : goal.returns-in-Ok-tell_traced
returns-in-Ok-tell_traced g c =
    let program = c.args.machine.now.program in
    let r = c.run-run.ensures.did.runs in
    let first = going_world c.args.machine.now.core r.fed in
    let n = c.run-run.result.steps in
    let words = c.run-run.new.watch.words.items in
    let are = trace_is program first n c.args.count c.in-Ok.trace.words words c.in-Ok.ensures c.run-run.ensures.did.watched in
    let fetched = subst (λ (ws : List Fetched). AreFetched program ws) (sym are) (are_fetched program first n c.args.count c.requires.read) in
    let lines : RunEnd → List Bytes = λ end. map (shown program) words ++ texts (end_notes end n) in
    record {
      run = inr (run_told program _ c.args.steps (Some c.args.count) _ (g.W.World.holds c.run-run.new.self) (g.W.World.holds c.tell_traced.new.world) c.run-run.result _ lines c.status_of.result c.run-run.ensures.end c.in_default.not-InputFault c.in_default.not-OutputFault c.run-run.ensures.steps
          r c.run-run.ensures.rest (λ end. ap (λ ws. map (shown program) ws ++ texts (end_notes end n)) are) (λ end is. c.in-Ok-tell_traced.ensures.told program end fetched is) c.status_of.ensures.machine);
      own = c.status_of.ensures.own;
      counted = c.in-Ok-tell_traced.ensures.counted ∙ c.run-run.ensures.quiet c.in_default.not-InputFault c.in_default.not-OutputFault;
      same = c.in-Ok-tell_traced.ensures.same ∙ c.run-run.ensures.same;
      called = c.in-Ok-tell_traced.ensures.called ∙ c.run-run.ensures.called;
    }

pub returns-in-Err-tell_traced : goal.returns-in-Err-tell_traced
returns-in-Err-tell_traced g c =
    let program = c.args.machine.now.program in
    let r = c.run-run.ensures.did.runs in
    let first = going_world c.args.machine.now.core r.fed in
    let n = c.run-run.result.steps in
    let words = c.run-run.new.watch.words.items in
    let are = trace_is program first n c.args.count c.in-Ok.trace.words words c.in-Ok.ensures c.run-run.ensures.did.watched in
    let fetched = subst (λ (ws : List Fetched). AreFetched program ws) (sym are) (are_fetched program first n c.args.count c.requires.read) in
    let lines : RunEnd → List Bytes = λ end. map (shown program) words ++ texts (end_notes end n) in
    record {
      run = inr (run_told_part program _ c.args.steps (Some c.args.count) _ (g.W.World.holds c.run-run.new.self) (g.W.World.holds c.tell_traced.new.world) c.run-run.result _ lines c.in-Err-tell_traced.stop c.run-run.ensures.end c.in_default.not-InputFault c.in_default.not-OutputFault c.run-run.ensures.steps
          r c.run-run.ensures.rest (λ end. ap (λ ws. map (shown program) ws ++ texts (end_notes end n)) are) c.in-Err-tell_traced.ensures.rest (λ end is. c.in-Err-tell_traced.ensures.told program end fetched is) c.in-Err-tell_traced.ensures.stop);
      own = tt;
      counted = faulted_after _ _ _ _ _ _ (c.run-run.ensures.quiet c.in_default.not-InputFault c.in_default.not-OutputFault) c.in-Err-tell_traced.ensures.counted;
      same = c.in-Err-tell_traced.ensures.same ∙ c.run-run.ensures.same;
      called = c.in-Err-tell_traced.ensures.called ∙ c.run-run.ensures.called;
    }
