use Rattle.std.proofs.Common.{◌≡◌, ◌+◌, ◌*◌}
use Rattle.rv_insn.specs.Program.{Program}
use Rattle.rv_machine.specs.Start.{IsProgramOf}
use Rattle.fy_world.proofs.Listing.{ListedTo}
use Rattle.fy_world.proofs.images.list_image.Given as goal

-- the lines so far were put
abbrev pub invariant-loop-word : goal.invariant-loop-word
invariant-loop-word g l =
    let holds = g.W.World.holds in
    record {
      at : l.pc ≡ 65536 + 4 * l.word-index;
      listed : (program : Program) → IsProgramOf l.image program → ListedTo program l.word-index (holds l.initial.world) (holds l.world);
      counts : g.W.World.counts l.world ≡ g.W.World.counts l.initial.world;
      same : g.W.World.names l.world ≡ g.W.World.names l.initial.world;
      calls : g.W.World.calls l.world ≡ g.W.World.calls l.initial.world;
    }
