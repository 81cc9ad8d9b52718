use Rattle.std.proofs.Common.{◌≡◌, ◌≤◌, length, map, take, drop}
use Rattle.fy_derive.specs.Reading.{plain_derivation}
use Rattle.fy_link.specs.Composed.{units_derivation}
use Rattle.fy_link.specs.Read.{owns_before}
use Rattle.fy_link.specs.Units.{plain_unit}
use Rattle.fy_link.proofs.composed.units_derivation.Given as goal

abbrev pub invariant-loop-i : goal.invariant-loop-i
invariant-loop-i l = record {
  place : l.i ≤ length l.units;
  made : plain_derivation l.made ≡ units_derivation (owns_before (take l.i l.units)) (map plain_unit (drop l.i l.units));
}

abbrev pub decreases-loop-i : goal.decreases-loop-i
decreases-loop-i l = l.i
