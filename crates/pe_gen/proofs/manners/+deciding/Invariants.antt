use Rattle.std.proofs.Common.{◌≡◌, ◌+◌, ◌*◌, ◌++◌, map, drop}
use Rattle.fy_phrase.specs.Reads.{reads, reads_parts, trees_from}
use Rattle.fy_phrase.specs.Sizes.{nodes, all_nodes}
use Rattle.pe_gen.specs.Manners.{manners_of_all}
use Rattle.pe_gen.specs.Scopes.{binders}
use Rattle.pe_gen.proofs.manners.+deciding.Given as goal

abbrev pub invariant-add_manners_of_all-loop-part : goal.invariant-add_manners_of_all-loop-part
invariant-add_manners_of_all-loop-part l = record {
  size : l.size + all_nodes (trees_from (map reads (drop l.part-index l.part-items))) ≡ all_nodes (reads_parts l.parts);
  listed : l.manners.items ++ manners_of_all l.room l.code (binders l.scope) (l.number + l.size) (trees_from (map reads (drop l.part-index l.part-items)))
      ≡ l.initial.manners.items ++ manners_of_all l.room l.code (binders l.scope) l.number (reads_parts l.parts);
}

abbrev pub decreases-add_manners : goal.decreases-add_manners
decreases-add_manners l = 3 * nodes (reads l.p.now) + 1

abbrev pub decreases-add_below : goal.decreases-add_below
decreases-add_below l = 3 * nodes (reads l.p.now)

abbrev pub decreases-add_manners_of_all : goal.decreases-add_manners_of_all
decreases-add_manners_of_all l = 3 * all_nodes (reads_parts l.parts.now) + 2
