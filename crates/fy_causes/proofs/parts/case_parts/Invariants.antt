use Rattle.std.proofs.Common.{◌≡◌, ◌∷◌, map, take}
use Rattle.fy_phrase.specs.Reads.{reads, trees_from}
use Rattle.fy_causes.specs.Occurrences.{each_occurs, least_of, occurs}
use Rattle.fy_causes.specs.Readings.{around_read, part_at, part_type}
use Rattle.fy_causes.proofs.parts.case_parts.Given as goal

abbrev pub invariant-loop-part : goal.invariant-loop-part
invariant-loop-part l = record {
  at : map part_at l.made.items
      ≡ occurs (around_read l.around.value) (reads l.index) ∷ each_occurs (around_read l.around.value) (trees_from (map reads (take l.part-index l.part-items)));
  types : map part_type l.made.items
      ≡ least_of (occurs (around_read l.around.value) (reads l.index))
      ∷ map least_of (each_occurs (around_read l.around.value) (trees_from (map reads (take l.part-index l.part-items))));
}
