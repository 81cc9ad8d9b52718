use Rattle.std.proofs.Common.{◌≡◌, [], drop, take, map}
use Rattle.fy_syntax.specs.Reading.{tree_of, trees_of, trees_from, link_of, links_of, links_from, def_of, defs_of, defs_from, decl_tree}
use Rattle.fy_expand.specs.Faults.{all_faults, links_fault, members_fault, rest_fault, defs_fault, fields_fault}
use Rattle.fy_expand.specs.Frames.{scope_of, def_names}
use Rattle.fy_expand.proofs.check.+check.Given as goal

abbrev pub invariant-check_all-loop-tree : goal.invariant-check_all-loop-tree
invariant-check_all-loop-tree l =
    all_faults (scope_of l.frame) (trees_from (map tree_of (drop l.tree-index l.tree-items))) ≡ all_faults (scope_of l.frame) (trees_of l.trees)

abbrev pub invariant-check_links-loop-link : goal.invariant-check_links-loop-link
invariant-check_links-loop-link l =
    links_fault (scope_of l.frame) (links_from (map link_of (drop l.link-index l.link-items))) ≡ links_fault (scope_of l.frame) (links_of l.links)

abbrev pub invariant-check_members-loop-member : goal.invariant-check_members-loop-member
invariant-check_members-loop-member l =
    rest_fault l.is_first (scope_of l.frame) (trees_from (map tree_of (drop l.member-index l.member-items))) ≡ members_fault (scope_of l.frame) (trees_of l.members)

abbrev pub invariant-check_defs-loop-i : goal.invariant-check_defs-loop-i
invariant-check_defs-loop-i l =
    defs_fault (scope_of l.frame) (def_names (take l.i l.def-items)) (defs_from (map def_of (drop l.i l.def-items))) ≡ defs_fault (scope_of l.frame) [] (defs_of l.defs)

abbrev pub invariant-check_fields-loop-i : goal.invariant-check_fields-loop-i
invariant-check_fields-loop-i l =
    fields_fault (scope_of l.frame) l.in_at (map decl_tree (drop l.i l.decls)) (defs_from (map def_of (drop l.i l.def-items))) ≡ fields_fault (scope_of l.frame) l.in_at (map decl_tree l.decls) (defs_of l.defs)
