use Rattle.std.proofs.Common.{◌≡◌, ◌+◌, ◌≤◌, take}
use Rattle.fy_base.specs.Places.{first_place}
use Rattle.fy_lexer.specs.Spot.{past}
use Rattle.fy_link.proofs.PlaceOrder.{IsBefore}
use Rattle.fy_link.proofs.joined.tail.Given as goal

abbrev pub invariant-loop-i : goal.invariant-loop-i
invariant-loop-i l = record {
  walked : l.here ≡ past first_place (take l.i l.text);
  line : l.here.line ≤ l.i + 1;
  col : l.here.col ≤ l.i + 1;
  before : IsBefore l.text l.at l.i;
}
