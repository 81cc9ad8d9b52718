use Rattle.std.proofs.Common.{◌≡◌, map, take}
use Rattle.fy_phrase.specs.Reads.{reads, trees_from}
use Rattle.fy_phrase.specs.Sizes.{all_nodes, greatest_u64}
use Rattle.fy_phrase.proofs.sizes.+node_count.Given as goal

abbrev pub invariant-node_count_of_parts-loop-part : goal.invariant-node_count_of_parts-loop-part
invariant-node_count_of_parts-loop-part l = l.count ≡ greatest_u64 (all_nodes (trees_from (map reads (take l.part-index l.part-items))))
