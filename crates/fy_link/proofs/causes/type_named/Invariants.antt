use Rattle.std.proofs.Common.{◌≡◌, ◌≤◌, length, take}
use Rattle.fy_link.specs.Composed.{type_named}
use Rattle.fy_link.specs.Read.{owns_before}
use Rattle.fy_link.proofs.causes.type_named.Given as goal

abbrev pub invariant-loop-i : goal.invariant-loop-i
invariant-loop-i l = record {
  place : l.i ≤ length l.units;
  named : type_named l.name (owns_before (take l.i l.units)) ≡ type_named l.name (owns_before l.units);
}

abbrev pub decreases-loop-i : goal.decreases-loop-i
decreases-loop-i l = l.i
