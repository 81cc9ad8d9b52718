use Rattle.std.proofs.Common.{refl, inl, inr, None}
use Rattle.fy_world.specs.declared.world.Stop.TheVariants.{Input, Output}
use Rattle.fy_world.proofs.Executing.{run_faulted}
use Rattle.fy_world.proofs.Sampling.{sampled_done, sampled_stopped}
use Rattle.fy_world.proofs.runs.run_sampled.Goals as goal

pub returns-in-InputFault-clause-run : goal.returns-in-InputFault-clause-run
returns-in-InputFault-clause-run g c =
    sampled_stopped _ _ c.args.steps None _ (g.W.World.holds c.run-run.new.self) Input
    (run_faulted _ _ c.args.steps None _ (g.W.World.holds c.run-run.new.self) Input c.run-run.result _ (inl (refl, c.in-InputFault.is)) c.run-run.ensures.steps c.run-run.ensures.did.runs c.run-run.ensures.rest)

pub returns-in-OutputFault-clause-run : goal.returns-in-OutputFault-clause-run
returns-in-OutputFault-clause-run g c =
    sampled_stopped _ _ c.args.steps None _ (g.W.World.holds c.run-run.new.self) Output
    (run_faulted _ _ c.args.steps None _ (g.W.World.holds c.run-run.new.self) Output c.run-run.result _ (inr (refl, c.in-OutputFault.is)) c.run-run.ensures.steps c.run-run.ensures.did.runs c.run-run.ensures.rest)

pub returns-in_default-clause-run : goal.returns-in_default-clause-run
returns-in_default-clause-run g c =
    sampled_done _ _ c.args.steps _ (g.W.World.holds c.run-run.new.self) (g.W.World.holds c.sum_up.new.world) c.run-run.result _ c.sum_up.result c.run-run.ensures.end c.in_default.not-InputFault c.in_default.not-OutputFault c.run-run.ensures.steps
    c.run-run.ensures.did.runs c.run-run.ensures.rest c.sum_up.ensures.sums
