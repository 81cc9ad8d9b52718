use Rattle.std.proofs.Common.{◌∙◌, refl, inl, inr}
use Rattle.fy_world.specs.Note.{texts}
use Rattle.fy_world.specs.Runs.{end_notes}
use Rattle.fy_world.specs.declared.world.Stop.TheVariants.{Input, Output, Memory}
use Rattle.fy_world.proofs.Counting.{faulted_after}
use Rattle.fy_world.proofs.Executing.{run_faulted, run_told, run_untold, notes_only}
use Rattle.std.proofs.Common.{None}
use Rattle.fy_world.proofs.runs.run_machine.Goals as goal

pub returns-in-InputFault-clause-run : goal.returns-in-InputFault-clause-run
returns-in-InputFault-clause-run g c =
    run_faulted _ _ c.args.steps None _ (g.W.World.holds c.run-run.new.self) Input c.run-run.result _ (inl (refl, c.in-InputFault.is)) c.run-run.ensures.steps c.run-run.ensures.did.runs c.run-run.ensures.rest

pub returns-in-OutputFault-clause-run : goal.returns-in-OutputFault-clause-run
returns-in-OutputFault-clause-run g c =
    run_faulted _ _ c.args.steps None _ (g.W.World.holds c.run-run.new.self) Output c.run-run.result _ (inr (refl, c.in-OutputFault.is)) c.run-run.ensures.steps c.run-run.ensures.did.runs c.run-run.ensures.rest

pub returns-in-Err : goal.returns-in-Err
returns-in-Err g c = record {
  run = run_untold _ _ c.args.steps _ (g.W.World.holds c.run-run.new.self) (g.W.World.holds c.tell_end.new.world) c.run-run.result _ c.in-Err.stop c.run-run.ensures.end c.in_default.not-InputFault c.in_default.not-OutputFault c.run-run.ensures.steps
      c.run-run.ensures.did.runs c.run-run.ensures.rest c.in-Err.ensures.rest c.in-Err.ensures.part c.in-Err.ensures.stop;
  own = tt;
  counted = faulted_after _ _ _ _ _ _ (c.run-run.ensures.quiet c.in_default.not-InputFault c.in_default.not-OutputFault) c.in-Err.ensures.counted;
  memory = notes_only c.in-Err.stop Memory c.in-Err.ensures.stop (λ e. cc) _ refl;
  same = c.in-Err.ensures.same ∙ c.run-run.ensures.same;
  called = c.in-Err.ensures.called ∙ c.run-run.ensures.called;
}

pub returns-in-Ok-clause-run : goal.returns-in-Ok-clause-run
returns-in-Ok-clause-run g c =
    run_told _ _ c.args.steps None _ (g.W.World.holds c.run-run.new.self) (g.W.World.holds c.tell_end.new.world) c.run-run.result _ (λ end. texts (end_notes end c.run-run.result.steps)) c.status_of.result c.run-run.ensures.end c.in_default.not-InputFault
    c.in_default.not-OutputFault c.run-run.ensures.steps c.run-run.ensures.did.runs c.run-run.ensures.rest (λ end. refl) c.in-Ok.ensures.told c.status_of.ensures.machine
