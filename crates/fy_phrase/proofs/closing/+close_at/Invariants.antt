use Rattle.std.proofs.Common.{◌≡◌, ℕ, map, take}
use Rattle.fy_phrase.specs.Reads.{reads, reads_parts, trees_from}
use Rattle.fy_phrase.specs.Closing.{all_closed_at}
use Rattle.fy_phrase.specs.Sizes.{greatest_u64}
use Rattle.fy_phrase.proofs.closing.+close_at.Given as goal

abbrev pub invariant-close_parts-loop-part : goal.invariant-close_parts-loop-part
invariant-close_parts-loop-part l =
    (n : ℕ) → l.level ≡ greatest_u64 n → reads_parts l.made ≡ all_closed_at n (reads l.actual) (trees_from (map reads (take l.part-index l.part-items)))
