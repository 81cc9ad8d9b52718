use Rattle.std.proofs.Common.{◌≡◌, ◌++◌, [], map, drop}
use Rattle.fy_syntax.specs.Reading.{tree_of, trees_of, trees_from, def_of, defs_of, defs_from, link_of, links_of, links_from}
use Rattle.fy_syntax.specs.Ranges.{AreInRanges, AreDefsInRanges, AreLinksInRanges}
use Rattle.fy_syntax.specs.Print.{trees_text, defs_text, links_text}
use Rattle.fy_syntax.proofs.printer.+put_tree.Given as goal

abbrev pub invariant-put_trees-loop-tree : goal.invariant-put_trees-loop-tree
invariant-put_trees-loop-tree l = record {
  text :
      l.text.items ++ trees_text l.names l.lead l.separator (trees_from (map tree_of (drop l.tree-index l.tree-items)))
      ≡ l.initial.text.items ++ trees_text l.names [] l.separator (trees_of l.trees);
  ranges : AreInRanges (trees_from (map tree_of (drop l.tree-index l.tree-items))) → AreInRanges (trees_of l.trees);
}

abbrev pub invariant-put_defs-loop-def : goal.invariant-put_defs-loop-def
invariant-put_defs-loop-def l = record {
  text :
      l.text.items ++ defs_text l.names l.lead (defs_from (map def_of (drop l.def-index l.def-items)))
      ≡ l.initial.text.items ++ defs_text l.names [] (defs_of l.defs);
  ranges : AreDefsInRanges (defs_from (map def_of (drop l.def-index l.def-items))) → AreDefsInRanges (defs_of l.defs);
}

abbrev pub invariant-put_links-loop-link : goal.invariant-put_links-loop-link
invariant-put_links-loop-link l = record {
  text :
      l.text.items ++ links_text l.names (links_from (map link_of (drop l.link-index l.link-items)))
      ≡ l.initial.text.items ++ links_text l.names (links_of l.links);
  ranges : AreLinksInRanges (links_from (map link_of (drop l.link-index l.link-items))) → AreLinksInRanges (links_of l.links);
}
