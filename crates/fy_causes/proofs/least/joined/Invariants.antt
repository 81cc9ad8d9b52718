use Rattle.std.proofs.Common.{◌≡◌, drop, map}
use Rattle.fy_types.specs.Reading.{plain_paths}
use Rattle.fy_causes.specs.Readings.{found_read, joined, joined_with}
use Rattle.fy_causes.proofs.least.joined.Given as goal

-- what is left decides
abbrev pub invariant-loop-i : goal.invariant-loop-i
invariant-loop-i l = joined_with (plain_paths l.paths) (map found_read (drop l.i l.parts)) ≡ joined (map found_read l.parts)
