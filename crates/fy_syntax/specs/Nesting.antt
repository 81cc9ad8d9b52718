-- How deep a tree is: the greatest number of term and type nodes on one path.
use Rattle.std.specs.Prelude.{ℕ, suc, ◌+◌, max, min, List, [], ◌∷◌}
use Rattle.fy_syntax.specs.Trees.{TypeTree, TypeTrees, DeclTree, Tree, Trees, Defs, Links}

-- type nodes on a path below a type's own node
abbrev mutual
  pub type_below : TypeTree → ℕ
  type_below (TypeTree.arrow a b at) = max (type_below a) (suc (type_below b))
  type_below (TypeTree.meet members at) = types_below members
  type_below (TypeTree.field names a at) = type_below a
  type_below (TypeTree.ns at) = 0
  type_below (TypeTree.atom a at) = 0
  type_below (TypeTree.ident n at) = 0
  type_below (TypeTree.group a at) = suc (type_below a)

  pub types_below : TypeTrees → ℕ
  types_below TypeTrees.no_types = 0
  types_below (TypeTrees.and_type a more) = max (type_below a) (types_below more)

-- the nesting of a type, of alternatives and of declared types: each is one node more
abbrev pub type_nesting : TypeTree → ℕ
type_nesting a = suc (type_below a)

abbrev pub types_nesting : TypeTrees → ℕ
types_nesting TypeTrees.no_types = 0
types_nesting (TypeTrees.and_type a more) = max (type_nesting a) (types_nesting more)

abbrev pub decls_nesting : List DeclTree → ℕ
decls_nesting [] = 0
decls_nesting (d ∷ more) = max (type_nesting d.type) (decls_nesting more)

-- a merge and a sequence are no terms, and every other phrase is one
abbrev pub own : Tree → ℕ
own (Tree.merge members at) = 0
own (Tree.sequence members at) = 0
own _ = 1

-- term and type nodes on a path below a phrase's own term node
abbrev mutual
  pub below : Tree → ℕ
  below (Tree.merge members at) = trees_nesting members
  below (Tree.sequence members at) = trees_nesting members
  below (Tree.lam n alternatives p at) = max (types_nesting alternatives) (below p + own p)
  below (Tree.let_in defs p at) = max (defs_nesting defs) (below p + own p)
  below (Tree.letrec decls defs in_at p at) = max (decls_nesting decls) (max (defs_nesting defs) (below p + own p))
  below (Tree.let_type n a p at) = max (type_nesting a) (below p + own p)
  below (Tree.new n kind p q at) = max (below p + own p) (below q + own q)
  below (Tree.escape n p at) = below p + own p
  below (Tree.accept n kind p at) = below p + own p
  below (Tree.cond b p q at) = max (below b + own b) (max (below p + own p) (below q + own q))
  below (Tree.while_do b p at) = max (below b + own b) (below p + own p)
  below (Tree.loop p at) = below p + own p
  below (Tree.field n p at) = below p + own p
  below (Tree.assign p becomes_at q at) = max (below p) (below q + own q)
  below (Tree.chain p links at) = max (below p) (links_below links)
  below (Tree.prefixed operators p at) = below p
  below (Tree.apply p arguments at) = max (below p) (trees_below arguments)
  below (Tree.select p names at) = below p
  below (Tree.ident n at) = 0
  below (Tree.number v at) = 0
  below (Tree.letter c at) = 0
  below (Tree.string bytes at) = 0
  below (Tree.truth b at) = 0
  below (Tree.skip at) = 0
  below (Tree.group p at) = below p + own p
  below (Tree.seq_of parts at) = trees_nesting parts

  -- the nesting of phrases: with the node of each
  pub trees_nesting : Trees → ℕ
  trees_nesting Trees.no_trees = 0
  trees_nesting (Trees.and_tree p more) = max (below p + own p) (trees_nesting more)

  pub trees_below : Trees → ℕ
  trees_below Trees.no_trees = 0
  trees_below (Trees.and_tree p more) = max (below p) (trees_below more)

  pub defs_nesting : Defs → ℕ
  defs_nesting Defs.no_defs = 0
  defs_nesting (Defs.and_def n at p more) = max (below p + own p) (defs_nesting more)

  pub links_below : Links → ℕ
  links_below Links.no_links = 0
  links_below (Links.and_link op at p more) = max (below p) (links_below more)

-- the greatest number of term and type nodes on one path
abbrev pub nesting : Tree → ℕ
nesting p = below p + own p

-- a number, or the greatest of 32 bits
abbrev pub capped : ℕ → ℕ
capped n = min n 4294967295
