-- The plain tree that each tree of the program is.
use Rattle.std.specs.Prelude.{ℕ, List, [], ◌∷◌, map}
use Rattle.fy_base.specs.declared.data.BinOp.{BinOp}
use Rattle.fy_base.specs.declared.data.Place.{Place}
use Rattle.fy_syntax.specs.declared.types.SurfaceTy.{SurfaceTy, SurfaceTy-F, fold-SurfaceTy}
use Rattle.fy_syntax.specs.declared.types.SurfaceTyList.{SurfaceTyList, SurfaceTyList-F, fold-SurfaceTyList, out-SurfaceTyList}
use Rattle.fy_syntax.specs.declared.types.Decl.{Decl}
use Rattle.fy_syntax.specs.declared.surface.Surface.{Surface, Surface-F, fold-Surface}
use Rattle.fy_syntax.specs.declared.surface.SurfaceList.{SurfaceList, SurfaceList-F, fold-SurfaceList, out-SurfaceList}
use Rattle.fy_syntax.specs.declared.surface.Def.{Def, Def-F, fold-Def}
use Rattle.fy_syntax.specs.declared.surface.DefList.{DefList, DefList-F, fold-DefList, out-DefList}
use Rattle.fy_syntax.specs.declared.surface.Link.{Link, Link-F, fold-Link}
use Rattle.fy_syntax.specs.declared.surface.LinkList.{LinkList, LinkList-F, fold-LinkList, out-LinkList}
use Rattle.fy_syntax.specs.Trees.{TypeTree, TypeTrees, DeclTree, Tree, Trees, Defs, Links}

-- the members of the lists
abbrev pub types_in : SurfaceTyList → List SurfaceTy
types_in l = (out-SurfaceTyList l).items.items

abbrev pub phrases_in : SurfaceList → List Surface
phrases_in l = (out-SurfaceList l).items.items

abbrev pub defs_in : DefList → List Def
defs_in l = (out-DefList l).items.items

abbrev pub links_in : LinkList → List Link
links_in l = (out-LinkList l).items.items

-- a definition, and an operator with its operand
pub record DefTree : Type 0 where
  pub name : ℕ
  pub at : Place
  pub body : Tree

pub record LinkTree : Type 0 where
  pub op : BinOp
  pub at : Place
  pub item : Tree

abbrev pub types_from : List TypeTree → TypeTrees
types_from [] = TypeTrees.no_types
types_from (a ∷ more) = TypeTrees.and_type a (types_from more)

abbrev pub trees_from : List Tree → Trees
trees_from [] = Trees.no_trees
trees_from (p ∷ more) = Trees.and_tree p (trees_from more)

abbrev pub defs_from : List DefTree → Defs
defs_from [] = Defs.no_defs
defs_from (d ∷ more) = Defs.and_def d.name d.at d.body (defs_from more)

abbrev pub links_from : List LinkTree → Links
links_from [] = Links.no_links
links_from (l ∷ more) = Links.and_link l.op l.at l.item (links_from more)

abbrev pub type_step : SurfaceTy-F TypeTree TypeTrees → TypeTree
type_step (SurfaceTy-F.Arrow a b at) = TypeTree.arrow a.value b.value at
type_step (SurfaceTy-F.Meet members at) = TypeTree.meet members at
type_step (SurfaceTy-F.Field names a at) = TypeTree.field names a.value at
type_step (SurfaceTy-F.Ns at) = TypeTree.ns at
type_step (SurfaceTy-F.Atom atom at) = TypeTree.atom atom at
type_step (SurfaceTy-F.Ident name at) = TypeTree.ident name at
type_step (SurfaceTy-F.Group a at) = TypeTree.group a.value at

abbrev pub types_step : SurfaceTyList-F TypeTree TypeTrees → TypeTrees
types_step l = types_from l.items.items

-- the type that is written
abbrev pub type_tree : SurfaceTy → TypeTree
type_tree = fold-SurfaceTy TypeTree TypeTrees type_step types_step

abbrev pub type_trees : SurfaceTyList → TypeTrees
type_trees = fold-SurfaceTyList TypeTree TypeTrees type_step types_step

abbrev pub decl_tree : Decl → DeclTree
decl_tree d = record { name = d.name; at = d.at; type = type_tree d.ty }

abbrev pub surface_step : Surface-F Tree DefTree Defs LinkTree Links Trees → Tree
surface_step (Surface-F.Merge members at) = Tree.merge members at
surface_step (Surface-F.Sequence members at) = Tree.sequence members at
surface_step (Surface-F.Lam name alternatives body at) = Tree.lam name (type_trees alternatives) body.value at
surface_step (Surface-F.Let defs body at) = Tree.let_in defs body.value at
surface_step (Surface-F.Letrec decls defs in_at body at) = Tree.letrec (map decl_tree decls) defs in_at body.value at
surface_step (Surface-F.Lettype name a body at) = Tree.let_type name (type_tree a) body.value at
surface_step (Surface-F.New name kind first body at) = Tree.new name kind first.value body.value at
surface_step (Surface-F.Escape name body at) = Tree.escape name body.value at
surface_step (Surface-F.Accept name kind body at) = Tree.accept name kind body.value at
surface_step (Surface-F.If b p q at) = Tree.cond b.value p.value q.value at
surface_step (Surface-F.WhileDo b p at) = Tree.while_do b.value p.value at
surface_step (Surface-F.Loop p at) = Tree.loop p.value at
surface_step (Surface-F.Field name p at) = Tree.field name p.value at
surface_step (Surface-F.Assign p becomes_at q at) = Tree.assign p.value becomes_at q.value at
surface_step (Surface-F.Chain p links at) = Tree.chain p.value links at
surface_step (Surface-F.Prefix operators p at) = Tree.prefixed operators p.value at
surface_step (Surface-F.Apply p arguments at) = Tree.apply p.value arguments at
surface_step (Surface-F.Select p names at) = Tree.select p.value names at
surface_step (Surface-F.Ident name at) = Tree.ident name at
surface_step (Surface-F.Number value at) = Tree.number value at
surface_step (Surface-F.Letter byte at) = Tree.letter byte at
surface_step (Surface-F.Str bytes at) = Tree.string bytes at
surface_step (Surface-F.Truth value at) = Tree.truth value at
surface_step (Surface-F.Skip at) = Tree.skip at
surface_step (Surface-F.Group p at) = Tree.group p.value at
surface_step (Surface-F.SeqOf parts at) = Tree.seq_of parts at

abbrev pub def_step : Def-F Tree DefTree Defs LinkTree Links Trees → DefTree
def_step d = record { name = d.name; at = d.at; body = d.body }

abbrev pub defs_step : DefList-F Tree DefTree Defs LinkTree Links Trees → Defs
defs_step l = defs_from l.items.items

abbrev pub link_step : Link-F Tree DefTree Defs LinkTree Links Trees → LinkTree
link_step l = record { op = l.op; at = l.at; item = l.item }

abbrev pub links_step : LinkList-F Tree DefTree Defs LinkTree Links Trees → Links
links_step l = links_from l.items.items

abbrev pub phrases_step : SurfaceList-F Tree DefTree Defs LinkTree Links Trees → Trees
phrases_step l = trees_from l.items.items

-- the phrase that is written
abbrev pub tree_of : Surface → Tree
tree_of = fold-Surface Tree DefTree Defs LinkTree Links Trees surface_step def_step defs_step link_step links_step phrases_step

abbrev pub def_of : Def → DefTree
def_of = fold-Def Tree DefTree Defs LinkTree Links Trees surface_step def_step defs_step link_step links_step phrases_step

abbrev pub defs_of : DefList → Defs
defs_of = fold-DefList Tree DefTree Defs LinkTree Links Trees surface_step def_step defs_step link_step links_step phrases_step

abbrev pub link_of : Link → LinkTree
link_of = fold-Link Tree DefTree Defs LinkTree Links Trees surface_step def_step defs_step link_step links_step phrases_step

abbrev pub links_of : LinkList → Links
links_of = fold-LinkList Tree DefTree Defs LinkTree Links Trees surface_step def_step defs_step link_step links_step phrases_step

abbrev pub trees_of : SurfaceList → Trees
trees_of = fold-SurfaceList Tree DefTree Defs LinkTree Links Trees surface_step def_step defs_step link_step links_step phrases_step
