use Rattle.std.proofs.Common.{◌≡◌, map, take}
use Rattle.fy_phrase.specs.Reads.{reads, trees_from}
use Rattle.fy_phrase.specs.Sizes.{all_nodes, all_nesting, greatest_u64}
use Rattle.fy_copy.proofs.sizes.+size_of.Given as goal

abbrev pub invariant-size_of_parts-loop-part : goal.invariant-size_of_parts-loop-part
invariant-size_of_parts-loop-part l = record {
  nodes : l.size.nodes ≡ greatest_u64 (all_nodes (trees_from (map reads (take l.part-index l.part-items))));
  nesting : l.size.nesting ≡ greatest_u64 (all_nesting (trees_from (map reads (take l.part-index l.part-items))));
}
