use Rattle.std.proofs.Common.{◌≡◌, ◌++◌, drop, map}
use Rattle.fy_syntax.specs.Reading.{tree_of, trees_of, trees_from, link_of, links_of, links_from, def_of, defs_of, defs_from}
use Rattle.fy_expand.specs.Measures.{trees_measures, links_measures, fields_measures, defs_measures}
use Rattle.fy_expand.specs.Frames.{scope_of, behind_all}
use Rattle.fy_expand.proofs.size.+size.Given as goal

abbrev pub invariant-sizes_of-loop-tree : goal.invariant-sizes_of-loop-tree
invariant-sizes_of-loop-tree l =
    l.sizes.items ++ trees_measures (scope_of l.frame) (trees_from (map tree_of (drop l.tree-index l.tree-items))) ≡ trees_measures (scope_of l.frame) (trees_of l.trees)

abbrev pub invariant-sizes_of_links-loop-link : goal.invariant-sizes_of_links-loop-link
invariant-sizes_of_links-loop-link l =
    l.sizes.items ++ links_measures (scope_of l.frame) (links_from (map link_of (drop l.link-index l.link-items))) ≡ links_measures (scope_of l.frame) (links_of l.links)

abbrev pub invariant-sizes_of_fields-loop-def : goal.invariant-sizes_of_fields-loop-def
invariant-sizes_of_fields-loop-def l =
    l.sizes.items ++ fields_measures (scope_of l.frame) (defs_from (map def_of (drop l.def-index l.def-items))) ≡ fields_measures (scope_of l.frame) (defs_of l.defs)

abbrev pub invariant-sizes_of_defs-loop-i : goal.invariant-sizes_of_defs-loop-i
invariant-sizes_of_defs-loop-i l =
    l.sizes.items ++ defs_measures (behind_all l.i (scope_of l.frame)) (defs_from (map def_of (drop l.i l.def-items))) ≡ defs_measures (scope_of l.frame) (defs_of l.defs)
