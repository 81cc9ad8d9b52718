use Rattle.std.proofs.Common.{◌≡◌, ◌≤◌, ◌++◌, length, map, drop}
use Rattle.fy_phrase.specs.Reads.{reads, trees_from}
use Rattle.fy_phrase.specs.Sizes.{all_nodes}
use Rattle.pe_gen.specs.Preorder.{nodes_of_all, seen_back}
use Rattle.pe_gen.proofs.listing.+listing.Given as goal

abbrev pub invariant-add_nodes_of_all-loop-i : goal.invariant-add_nodes_of_all-loop-i
invariant-add_nodes_of_all-loop-i l = record {
  within : l.i ≤ length l.items;
  size : l.size ≡ all_nodes (trees_from (map reads (drop l.i l.items)));
  listed : seen_back l.nodes.items ≡ nodes_of_all l.depth (trees_from (map reads (drop l.i l.items))) ++ seen_back l.initial.nodes.items;
}

abbrev pub decreases-add_nodes_of_all-loop-i : goal.decreases-add_nodes_of_all-loop-i
decreases-add_nodes_of_all-loop-i l = l.i
