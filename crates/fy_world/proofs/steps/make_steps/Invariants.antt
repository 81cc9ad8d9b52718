use Rattle.std.proofs.Common.{◌≡◌}
use Rattle.pe_machine.specs.Seen.{seen}
use Rattle.fy_world.proofs.StepRuns.{Told}
use Rattle.fy_world.proofs.steps.make_steps.Given as goal

-- the steps so far were told
abbrev pub invariant-loop-k : goal.invariant-loop-k
invariant-loop-k g l =
    let holds = g.W.World.holds in
    record {
      told : Told l.code l.names l.k (seen l.state) (holds l.initial.world) l.over (holds l.world);
      counts : g.W.World.counts l.world ≡ g.W.World.counts l.initial.world;
      same : g.W.World.names l.world ≡ g.W.World.names l.initial.world;
      calls : g.W.World.calls l.world ≡ g.W.World.calls l.initial.world;
    }
