use Rattle.std.proofs.Common.{◌≡◌, ◌≤◌, length, map, drop, reverse}
use Rattle.fy_link.specs.Placing.{plain_optional, wanted_for}
use Rattle.fy_link.specs.Read.{owns_before, plain_named}
use Rattle.fy_link.proofs.composed.wanted_types.Given as goal

abbrev pub invariant-loop-i : goal.invariant-loop-i
invariant-loop-i l = record {
  place : l.i ≤ length l.imports;
  types : map plain_optional l.types.items ≡ map (wanted_for (owns_before l.before)) (reverse (map plain_named (drop l.i l.imports)));
}

abbrev pub decreases-loop-i : goal.decreases-loop-i
decreases-loop-i l = l.i
