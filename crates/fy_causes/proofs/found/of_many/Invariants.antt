use Rattle.std.proofs.Common.{◌≡◌, drop, map}
use Rattle.fy_phrase.specs.Reads.{reads}
use Rattle.fy_causes.specs.Occurrences.{occurs}
use Rattle.fy_causes.specs.Readings.{around_read, blame_from, found_read}
use Rattle.fy_causes.proofs.found.of_many.Given as goal

-- what is left decides
abbrev pub invariant-loop-other : goal.invariant-loop-other
invariant-loop-other l =
    blame_from (map found_read (drop l.other-index l.others)) (occurs (around_read l.around.value) (reads l.p))
    ≡ blame_from (map found_read l.others) (occurs (around_read l.around.value) (reads l.p))
