use Rattle.std.proofs.Common.{◌≡◌, length, map, take}
use Rattle.std.specs.Borrow.{Bor}
use Rattle.fy_base.specs.Outside.{Bytes}
use Rattle.fy_world.specs.Counted.{HasCalled}
use Rattle.fy_tool.proofs.ReadUnits.{ReadSoFar}
use Rattle.fy_tool.proofs.objects.objects_in.Given as goal

abbrev pub invariant-loop-file : goal.invariant-loop-file
invariant-loop-file g l =
    let holds = g.W.World.holds in
    record {
      stays : holds l.world ≡ holds l.initial.world;
      read : ReadSoFar (holds l.initial.world).files (map (λ (file : Bor Bytes). file.now) (take l.file-index l.files)) l.units.items l.names;
      calls : HasCalled (length l.units.items) 0 (g.W.World.calls l.initial.world) (g.W.World.calls l.world);
      counts : g.W.World.counts l.world ≡ g.W.World.counts l.initial.world;
      same : g.W.World.names l.world ≡ g.W.World.names l.initial.world;
    }
