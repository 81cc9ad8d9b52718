use Rattle.std.proofs.Common.{◌≡◌, ℕ, map, take}
use Rattle.fy_phrase.specs.Tree.{Tree}
use Rattle.fy_phrase.specs.Reads.{reads, trees_from}
use Rattle.fy_phrase.specs.Closing.{all_closed_at}
use Rattle.fy_phrase.specs.Sizes.{nodes as nodes_of, nesting as nesting_of, all_nodes, all_nesting, greatest_u64}
use Rattle.fy_copy.proofs.sizes.+closed_size.Given as goal

abbrev pub invariant-closed_size_of_parts-loop-part : goal.invariant-closed_size_of_parts-loop-part
invariant-closed_size_of_parts-loop-part l = record {
  nodes : (n : ℕ) (a : Tree) → l.level ≡ greatest_u64 n → l.actual.nodes ≡ greatest_u64 (nodes_of a) → l.size.nodes ≡ greatest_u64 (all_nodes (all_closed_at n a (trees_from (map reads (take l.part-index l.part-items)))));
  nesting : (n : ℕ) (a : Tree) → l.level ≡ greatest_u64 n → l.actual.nesting ≡ greatest_u64 (nesting_of a) → l.size.nesting ≡ greatest_u64 (all_nesting (all_closed_at n a (trees_from (map reads (take l.part-index l.part-items)))));
}
