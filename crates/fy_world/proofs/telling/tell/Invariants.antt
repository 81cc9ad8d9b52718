use Rattle.std.proofs.Common.{◌≡◌, take}
use Rattle.fy_base.specs.Outside.{appended}
use Rattle.fy_world.specs.Note.{texts, ended_lines}
use Rattle.fy_world.proofs.telling.tell.Given as goal

abbrev pub invariant-loop-note : goal.invariant-loop-note
invariant-loop-note g l =
    let holds = g.W.World.holds in
    record {
      told : holds l.world ≡ record (holds l.initial.world) { notes = appended (holds l.initial.world).notes (ended_lines (texts (take l.note-index l.notes))) };
      counts : g.W.World.counts l.world ≡ g.W.World.counts l.initial.world;
      same : g.W.World.names l.world ≡ g.W.World.names l.initial.world;
      calls : g.W.World.calls l.world ≡ g.W.World.calls l.initial.world;
    }
