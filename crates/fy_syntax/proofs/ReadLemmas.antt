-- What the readings give at one level.
use Rattle.std.proofs.Common.{◌≡◌, map, rules}
use Rattle.fy_syntax.specs.declared.types.SurfaceTyList.{SurfaceTyList}
use Rattle.fy_syntax.specs.declared.types.SurfaceTyList as types
use Rattle.fy_syntax.specs.declared.surface.SurfaceList.{SurfaceList}
use Rattle.fy_syntax.specs.declared.surface.Def.{Def, out-Def}
use Rattle.fy_syntax.specs.declared.surface.DefList.{DefList}
use Rattle.fy_syntax.specs.declared.surface.Link.{Link, out-Link}
use Rattle.fy_syntax.specs.declared.surface.LinkList.{LinkList}
use Rattle.fy_syntax.specs.declared.surface.Surface.{the_lemmas}
use Rattle.fy_syntax.specs.Reading.{types_in, phrases_in, defs_in, links_in, type_tree, type_trees, types_from, tree_of, trees_of, trees_from, def_of, defs_of, defs_from, link_of, links_of, links_from}

pub type_trees-at : (l : SurfaceTyList) → type_trees l ≡ types_from (map type_tree (types_in l))
type_trees-at l = search (rules, types.the_lemmas)

pub trees_of-at : (l : SurfaceList) → trees_of l ≡ trees_from (map tree_of (phrases_in l))
trees_of-at l = search (rules, the_lemmas)

pub defs_of-at : (l : DefList) → defs_of l ≡ defs_from (map def_of (defs_in l))
defs_of-at l = search (rules, the_lemmas)

pub links_of-at : (l : LinkList) → links_of l ≡ links_from (map link_of (links_in l))
links_of-at l = search (rules, the_lemmas)

pub def_of-at : (d : Def) → def_of d ≡ record { name = (out-Def d).name; at = (out-Def d).at; body = tree_of (out-Def d).body }
def_of-at d = search (rules, the_lemmas)

pub link_of-at : (l : Link) → link_of l ≡ record { op = (out-Link l).op; at = (out-Link l).at; item = tree_of (out-Link l).item }
link_of-at l = search (rules, the_lemmas)

pub ruleset readings = (type_trees-at, trees_of-at, defs_of-at, links_of-at, def_of-at, link_of-at)
