use Rattle.std.proofs.Common.{◌≡◌, ◌≤◌, [], length, take, Some}
use Rattle.pe_machine.specs.States.{frame_outside}
use Rattle.pe_machine.specs.Names.{IsPlacedName}
use Rattle.pe_machine.specs.Shown.{frames_onto, number_of}
use Rattle.pe_machine.specs.Turns.{frames_of}
use Rattle.pe_machine.proofs.lookup.place_outside.Given as goal

abbrev pub invariant-loop-left : goal.invariant-loop-left
invariant-loop-left l = record {
  end : l.end ≤ length l.core.frames.items;
  placed : IsPlacedName (frames_of l.core) l.name;
  outside :
      frame_outside (frames_onto l.core.cells.items [] l.core.frames.items) l.links (number_of l.fn.frame)
      ≡ frame_outside (frames_onto l.core.cells.items [] (take l.end l.core.frames.items)) l.left (Some l.name.number);
}

abbrev pub decreases-loop-left : goal.decreases-loop-left
decreases-loop-left l = l.left
