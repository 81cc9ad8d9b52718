use Rattle.std.proofs.Common.{◌≡◌, ◌+◌, ◌*◌, ◌++◌, max, drop, map}
use Rattle.fy_syntax.specs.declared.surface.Surface.{size-Surface}
use Rattle.fy_syntax.specs.declared.surface.SurfaceList.{size-SurfaceList}
use Rattle.fy_syntax.specs.declared.surface.DefList.{size-DefList}
use Rattle.fy_syntax.specs.declared.surface.LinkList.{size-LinkList}
use Rattle.fy_syntax.specs.Reading.{tree_of, trees_of, trees_from, def_of, defs_of, defs_from, link_of, links_of, links_from}
use Rattle.fy_show.specs.Binders.{all_binders, binders_in_defs, binders_in_fields, binders_in_links, depth_behind}
use Rattle.fy_show.proofs.binders.+binders.Given as goal

abbrev pub invariant-add_all-loop-tree : goal.invariant-add_all-loop-tree
invariant-add_all-loop-tree l =
    l.list.items ++ all_binders l.depth (trees_from (map tree_of (drop l.tree-index l.tree-items))) ≡ l.initial.list.items ++ all_binders l.depth (trees_of l.trees)

abbrev pub invariant-add_definitions-loop-def : goal.invariant-add_definitions-loop-def
invariant-add_definitions-loop-def l = record {
  behind : depth_behind l.here (defs_from (map def_of (drop l.def-index l.def-items))) ≡ depth_behind l.depth (defs_of l.defs);
  list :
      l.list.items ++ binders_in_defs l.here (defs_from (map def_of (drop l.def-index l.def-items)))
      ≡ l.initial.list.items ++ binders_in_defs l.depth (defs_of l.defs);
}

abbrev pub invariant-add_fields-loop-def : goal.invariant-add_fields-loop-def
invariant-add_fields-loop-def l =
    l.list.items ++ binders_in_fields l.depth (defs_from (map def_of (drop l.def-index l.def-items))) ≡ l.initial.list.items ++ binders_in_fields l.depth (defs_of l.defs)

abbrev pub invariant-add_links-loop-link : goal.invariant-add_links-loop-link
invariant-add_links-loop-link l =
    l.list.items ++ binders_in_links l.depth (links_from (map link_of (drop l.link-index l.link-items))) ≡ l.initial.list.items ++ binders_in_links l.depth (links_of l.links)

-- what a form hands on stands below it
abbrev pub decreases-add_binders : goal.decreases-add_binders
decreases-add_binders l = 2 * size-Surface l.tree.now

abbrev pub decreases-add_inside : goal.decreases-add_inside
decreases-add_inside l = 2 * size-Surface l.body.now + 1

abbrev pub decreases-add_all : goal.decreases-add_all
decreases-add_all l = 2 * size-SurfaceList l.trees.now

abbrev pub decreases-add_let : goal.decreases-add_let
decreases-add_let l = 2 * max (size-DefList l.defs.now) (size-Surface l.body.now) + 1

abbrev pub decreases-add_definitions : goal.decreases-add_definitions
decreases-add_definitions l = 2 * size-DefList l.defs.now

abbrev pub decreases-add_fields : goal.decreases-add_fields
decreases-add_fields l = 2 * size-DefList l.defs.now

abbrev pub decreases-add_links : goal.decreases-add_links
decreases-add_links l = 2 * size-LinkList l.links.now
