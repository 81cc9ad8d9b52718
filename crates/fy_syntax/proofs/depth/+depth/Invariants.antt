use Rattle.std.proofs.Common.{◌≡◌, max, map, drop}
use Rattle.fy_syntax.specs.Reading.{tree_of, trees_of, trees_from, def_of, defs_of, defs_from, link_of, links_of, links_from}
use Rattle.fy_syntax.specs.Nesting.{capped, trees_nesting, trees_below, defs_nesting, links_below}
use Rattle.fy_syntax.proofs.depth.+depth.Given as goal

abbrev pub invariant-nesting_of_all-loop-tree : goal.invariant-nesting_of_all-loop-tree
invariant-nesting_of_all-loop-tree l =
    max l.greatest (capped (trees_nesting (trees_from (map tree_of (drop l.tree-index l.tree-items))))) ≡ capped (trees_nesting (trees_of l.trees))

abbrev pub invariant-below_all-loop-tree : goal.invariant-below_all-loop-tree
invariant-below_all-loop-tree l =
    max l.greatest (capped (trees_below (trees_from (map tree_of (drop l.tree-index l.tree-items))))) ≡ capped (trees_below (trees_of l.trees))

abbrev pub invariant-nesting_of_defs-loop-def : goal.invariant-nesting_of_defs-loop-def
invariant-nesting_of_defs-loop-def l =
    max l.greatest (capped (defs_nesting (defs_from (map def_of (drop l.def-index l.def-items))))) ≡ capped (defs_nesting (defs_of l.defs))

abbrev pub invariant-below_links-loop-link : goal.invariant-below_links-loop-link
invariant-below_links-loop-link l =
    max l.greatest (capped (links_below (links_from (map link_of (drop l.link-index l.link-items))))) ≡ capped (links_below (links_of l.links))
