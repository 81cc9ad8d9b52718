use Rattle.std.proofs.Common.{◌≡◌, ◌≤◌, length, drop, map, reverse}
use Rattle.fy_types.specs.Reading.{plain_type}
use Rattle.fy_derive.specs.Shown.{all_shown, AreIn}
use Rattle.fy_derive.proofs.reading.numbers_in_scope.Given as goal

abbrev pub invariant-loop-i : goal.invariant-loop-i
invariant-loop-i l = record {
  place : l.i ≤ length l.types;
  within : AreIn l.table l.numbers.items;
  stands : all_shown l.table l.numbers.items ≡ reverse (map plain_type (drop l.i l.types));
}

abbrev pub decreases-loop-i : goal.decreases-loop-i
decreases-loop-i l = l.i
