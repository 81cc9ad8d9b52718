use Rattle.std.proofs.Common.{◌≡◌, ◌≤◌, drop, map}
use Rattle.fy_types.specs.Reading.{plain_paths}
use Rattle.fy_causes.specs.Causes.{case_cause, first_apart}
use Rattle.fy_causes.specs.Readings.{part_type}
use Rattle.fy_causes.proofs.causes.case_cause.Given as goal

-- what is left decides
abbrev pub invariant-loop-i : goal.invariant-loop-i
invariant-loop-i l = record {
  behind : 2 ≤ l.i;
  same : first_apart l.i (plain_paths l.before) (map part_type (drop l.i l.parts)) ≡ case_cause (map part_type l.parts);
}
