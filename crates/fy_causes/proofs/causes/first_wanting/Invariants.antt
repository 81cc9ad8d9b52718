use Rattle.std.proofs.Common.{◌≡◌, drop, map}
use Rattle.fy_phrase.specs.Reads.{reads}
use Rattle.fy_causes.specs.Causes.{first_wanting}
use Rattle.fy_causes.specs.Readings.{part_type}
use Rattle.fy_causes.proofs.causes.first_wanting.Given as goal

-- what is left decides
abbrev pub invariant-loop-i : goal.invariant-loop-i
invariant-loop-i l =
    first_wanting (reads l.p) l.i (map part_type (drop l.i l.parts)) ≡ first_wanting (reads l.p) 0 (map part_type l.parts)
