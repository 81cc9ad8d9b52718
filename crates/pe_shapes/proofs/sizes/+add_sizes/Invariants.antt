use Rattle.std.proofs.Common.{◌≡◌, ◌+◌, length, take}
use Rattle.fy_phrase.specs.Reads.{reads}
use Rattle.fy_phrase.specs.Sizes.{nodes}
use Rattle.pe_shapes.specs.Parts.{parts_in, total_nodes, AreSizes, Keeps}
use Rattle.pe_shapes.proofs.sizes.+add_sizes.Given as goal

abbrev pub invariant-loop-part : goal.invariant-loop-part
invariant-loop-part l = record {
  kept : Keeps l.fn.sizes.items l.sizes.items;
  so_far : length l.sizes.items ≡ l.at + 1 + total_nodes (parts_in (take l.part-index l.part-items));
  sizes : AreSizes l.sizes.items (l.at + 1) (parts_in (take l.part-index l.part-items));
}

abbrev pub decreases-add_sizes : goal.decreases-add_sizes
decreases-add_sizes l = nodes (reads l.p.now)
