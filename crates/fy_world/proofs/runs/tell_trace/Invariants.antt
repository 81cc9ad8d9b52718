use Rattle.std.proofs.Common.{◌≡◌, length}
use Rattle.rv_insn.specs.Program.{Program}
use Rattle.fy_world.specs.Working.{AreFetched}
use Rattle.fy_world.proofs.Tracing.{ToldSoFar}
use Rattle.fy_world.proofs.runs.tell_trace.Given as goal

-- the lines so far were told
abbrev pub invariant-loop-fetched : goal.invariant-loop-fetched
invariant-loop-fetched g l =
    let holds = g.W.World.holds in
    record {
      told : (program : Program) → AreFetched program l.initial.trace.words.items → ToldSoFar program l.initial.trace.words.items l.trace.words.items (holds l.initial.world) (holds l.world);
      rest : holds l.world ≡ record (holds l.initial.world) { notes = (holds l.world).notes };
      counts : g.W.World.counts l.world ≡ g.W.World.counts l.initial.world;
      same : g.W.World.names l.world ≡ g.W.World.names l.initial.world;
      calls : g.W.World.calls l.world ≡ g.W.World.calls l.initial.world;
    }

abbrev pub decreases-loop-fetched : goal.decreases-loop-fetched
decreases-loop-fetched g l = length l.trace.words.items
