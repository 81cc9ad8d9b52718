use Rattle.std.proofs.Common.{◌≡◌, drop, take, map}
use Rattle.fy_syntax.specs.Reading.{tree_of, trees_of, trees_from, link_of, links_of, links_from, def_of, defs_of, defs_from}
use Rattle.fy_phrase.specs.Reads.{reads, phrases_in}
use Rattle.fy_expand.specs.Core.{core, linked, applied, merged_all, all_fields, lets, items_of}
use Rattle.fy_expand.specs.Built.{item_of, rest_merged, rest_fields}
use Rattle.fy_expand.specs.Frames.{scope_of, behind_all}
use Rattle.fy_expand.proofs.build.+build.Given as goal

abbrev pub invariant-build_links-loop-link : goal.invariant-build_links-loop-link
invariant-build_links-loop-link l =
    linked (scope_of l.frame) (reads l.made) (links_from (map link_of (drop l.link-index l.link-items))) ≡ linked (scope_of l.frame) (reads l.fn.first) (links_of l.links)

abbrev pub invariant-build_arguments-loop-argument : goal.invariant-build_arguments-loop-argument
invariant-build_arguments-loop-argument l =
    applied (scope_of l.frame) l.at (reads l.made) (trees_from (map tree_of (drop l.argument-index l.argument-items))) ≡ applied (scope_of l.frame) l.at (reads l.fn.first) (trees_of l.arguments)

abbrev pub invariant-build_merge-loop-member : goal.invariant-build_merge-loop-member
invariant-build_merge-loop-member l =
    rest_merged l.is_first (scope_of l.frame) l.at (reads l.made) (trees_from (map tree_of (drop l.member-index l.member-items))) ≡ merged_all (scope_of l.frame) l.at (trees_of l.members)

abbrev pub invariant-build_lets-loop-i : goal.invariant-build_lets-loop-i
invariant-build_lets-loop-i l =
    reads l.made ≡ lets (behind_all l.i (scope_of l.frame)) l.at (defs_from (map def_of (drop l.i l.items))) (reads l.fn.body)

abbrev pub invariant-build_items-loop-item : goal.invariant-build_items-loop-item
invariant-build_items-loop-item l =
    map item_of l.made.items ≡ items_of (scope_of l.frame) (trees_from (map tree_of (take l.item-index l.item-items)))

abbrev pub invariant-build_parts-loop-part : goal.invariant-build_parts-loop-part
invariant-build_parts-loop-part l =
    map reads (phrases_in l.made) ≡ map (λ p. core (scope_of l.frame) (tree_of p)) (take l.part-index l.part-items)

abbrev pub invariant-build_fields-loop-def : goal.invariant-build_fields-loop-def
invariant-build_fields-loop-def l =
    rest_fields l.is_first (scope_of l.frame) l.made.front (reads l.made.phrase) (defs_from (map def_of (drop l.def-index l.def-items))) ≡ all_fields (scope_of l.frame) l.fn.at (defs_of l.defs)
