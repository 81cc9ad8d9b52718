-- Trees and tokens but for their places.
use Rattle.std.specs.Prelude.{List, [], ◌∷◌}
use Rattle.fy_base.specs.declared.data.Place.{Place}
use Rattle.fy_base.specs.Places.{first_place}
use Rattle.fy_syntax.specs.declared.surface.Prefixed.{Prefixed}
use Rattle.fy_syntax.specs.Trees.{TypeTree, TypeTrees, DeclTree, Tree, Trees, Defs, Links}

-- what stands for each place; any would do
abbrev pub no_place : Place
no_place = first_place

abbrev mutual
  pub type_without_places : TypeTree → TypeTree
  type_without_places (TypeTree.arrow a b at) = TypeTree.arrow (type_without_places a) (type_without_places b) no_place
  type_without_places (TypeTree.meet members at) = TypeTree.meet (types_without_places members) no_place
  type_without_places (TypeTree.field names a at) = TypeTree.field names (type_without_places a) no_place
  type_without_places (TypeTree.ns at) = TypeTree.ns no_place
  type_without_places (TypeTree.atom a at) = TypeTree.atom a no_place
  type_without_places (TypeTree.ident n at) = TypeTree.ident n no_place
  type_without_places (TypeTree.group a at) = TypeTree.group (type_without_places a) no_place

  pub types_without_places : TypeTrees → TypeTrees
  types_without_places TypeTrees.no_types = TypeTrees.no_types
  types_without_places (TypeTrees.and_type a more) = TypeTrees.and_type (type_without_places a) (types_without_places more)

abbrev pub decls_without_places : List DeclTree → List DeclTree
decls_without_places [] = []
decls_without_places (d ∷ more) = record { name = d.name; at = no_place; type = type_without_places d.type } ∷ decls_without_places more

abbrev pub operators_without_places : List Prefixed → List Prefixed
operators_without_places [] = []
operators_without_places (o ∷ more) = record { op = o.op; at = no_place } ∷ operators_without_places more

abbrev mutual
  pub without_places : Tree → Tree
  without_places (Tree.merge members at) = Tree.merge (trees_without_places members) no_place
  without_places (Tree.sequence members at) = Tree.sequence (trees_without_places members) no_place
  without_places (Tree.lam n alternatives p at) = Tree.lam n (types_without_places alternatives) (without_places p) no_place
  without_places (Tree.let_in defs p at) = Tree.let_in (defs_without_places defs) (without_places p) no_place
  without_places (Tree.letrec decls defs in_at p at) = Tree.letrec (decls_without_places decls) (defs_without_places defs) no_place (without_places p) no_place
  without_places (Tree.let_type n a p at) = Tree.let_type n (type_without_places a) (without_places p) no_place
  without_places (Tree.new n kind p q at) = Tree.new n kind (without_places p) (without_places q) no_place
  without_places (Tree.escape n p at) = Tree.escape n (without_places p) no_place
  without_places (Tree.accept n kind p at) = Tree.accept n kind (without_places p) no_place
  without_places (Tree.cond b p q at) = Tree.cond (without_places b) (without_places p) (without_places q) no_place
  without_places (Tree.while_do b p at) = Tree.while_do (without_places b) (without_places p) no_place
  without_places (Tree.loop p at) = Tree.loop (without_places p) no_place
  without_places (Tree.field n p at) = Tree.field n (without_places p) no_place
  without_places (Tree.assign p becomes_at q at) = Tree.assign (without_places p) no_place (without_places q) no_place
  without_places (Tree.chain p links at) = Tree.chain (without_places p) (links_without_places links) no_place
  without_places (Tree.prefixed operators p at) = Tree.prefixed (operators_without_places operators) (without_places p) no_place
  without_places (Tree.apply p arguments at) = Tree.apply (without_places p) (trees_without_places arguments) no_place
  without_places (Tree.select p names at) = Tree.select (without_places p) names no_place
  without_places (Tree.ident n at) = Tree.ident n no_place
  without_places (Tree.number v at) = Tree.number v no_place
  without_places (Tree.letter c at) = Tree.letter c no_place
  without_places (Tree.string bytes at) = Tree.string bytes no_place
  without_places (Tree.truth b at) = Tree.truth b no_place
  without_places (Tree.skip at) = Tree.skip no_place
  without_places (Tree.group p at) = Tree.group (without_places p) no_place
  without_places (Tree.seq_of parts at) = Tree.seq_of (trees_without_places parts) no_place

  pub trees_without_places : Trees → Trees
  trees_without_places Trees.no_trees = Trees.no_trees
  trees_without_places (Trees.and_tree p more) = Trees.and_tree (without_places p) (trees_without_places more)

  pub defs_without_places : Defs → Defs
  defs_without_places Defs.no_defs = Defs.no_defs
  defs_without_places (Defs.and_def n at p more) = Defs.and_def n no_place (without_places p) (defs_without_places more)

  pub links_without_places : Links → Links
  links_without_places Links.no_links = Links.no_links
  links_without_places (Links.and_link op at p more) = Links.and_link op no_place (without_places p) (links_without_places more)
