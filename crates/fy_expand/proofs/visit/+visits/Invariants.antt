use Rattle.std.proofs.Common.{◌≡◌, ◌+◌, ◌-◌, ◌^◌, ◌≤◌, drop, map}
use Rattle.fy_phrase.specs.Reads.{reads, reads_parts, trees_from}
use Rattle.fy_phrase.specs.Sizes.{greatest_u64}
use Rattle.fy_phrase.specs.CoreLimits.{parts_visits}
use Rattle.fy_expand.proofs.visit.+visits.Given as goal

abbrev pub invariant-visits_of_parts-loop-part : goal.invariant-visits_of_parts-loop-part
invariant-visits_of_parts-loop-part l = record {
  total : greatest_u64 (l.count + parts_visits (trees_from (map reads (drop l.part-index l.part-items)))) ≡ greatest_u64 (parts_visits (reads_parts l.parts));
  fits : l.count ≤ 2 ^ 64 - 1;
}
