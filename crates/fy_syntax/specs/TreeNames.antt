-- The names in a tree: of identifiers, fields, selections and binders, of what is declared or defined, and in written types.
use Rattle.std.specs.Prelude.{ℕ, List, [], ◌∷◌}
use Rattle.fy_syntax.specs.Trees.{TypeTree, TypeTrees, DeclTree, Tree, Trees, Defs, Links}

-- each name of a list has the property
abbrev pub AllListed : (ℕ → Type 0) → List ℕ → Type 0
AllListed P [] = Unit {0}
AllListed P (n ∷ names) = P n × AllListed P names

abbrev mutual
  -- each name in a written type has the property
  pub AllTypeNames : (ℕ → Type 0) → TypeTree → Type 0
  AllTypeNames P (TypeTree.arrow a b at) = AllTypeNames P a × AllTypeNames P b
  AllTypeNames P (TypeTree.meet members at) = AllNamesOfTypes P members
  AllTypeNames P (TypeTree.field names a at) = AllListed P names × AllTypeNames P a
  AllTypeNames P (TypeTree.ns at) = Unit {0}
  AllTypeNames P (TypeTree.atom a at) = Unit {0}
  AllTypeNames P (TypeTree.ident n at) = P n
  AllTypeNames P (TypeTree.group a at) = AllTypeNames P a

  pub AllNamesOfTypes : (ℕ → Type 0) → TypeTrees → Type 0
  AllNamesOfTypes P TypeTrees.no_types = Unit {0}
  AllNamesOfTypes P (TypeTrees.and_type a more) = AllTypeNames P a × AllNamesOfTypes P more

-- each declared name and each name in its type has the property
abbrev pub AllNamesOfDecls : (ℕ → Type 0) → List DeclTree → Type 0
AllNamesOfDecls P [] = Unit {0}
AllNamesOfDecls P (d ∷ more) = P d.name × AllTypeNames P d.type × AllNamesOfDecls P more

abbrev mutual
  -- each name in a written phrase has the property
  pub AllNames : (ℕ → Type 0) → Tree → Type 0
  AllNames P (Tree.merge members at) = AllNamesOf P members
  AllNames P (Tree.sequence members at) = AllNamesOf P members
  AllNames P (Tree.lam n alternatives p at) = P n × AllNamesOfTypes P alternatives × AllNames P p
  AllNames P (Tree.let_in defs p at) = AllNamesOfDefs P defs × AllNames P p
  AllNames P (Tree.letrec decls defs in_at p at) = AllNamesOfDecls P decls × AllNamesOfDefs P defs × AllNames P p
  AllNames P (Tree.let_type n a p at) = P n × AllTypeNames P a × AllNames P p
  AllNames P (Tree.new n kind p q at) = P n × AllNames P p × AllNames P q
  AllNames P (Tree.escape n p at) = P n × AllNames P p
  AllNames P (Tree.accept n kind p at) = P n × AllNames P p
  AllNames P (Tree.cond b p q at) = AllNames P b × AllNames P p × AllNames P q
  AllNames P (Tree.while_do b p at) = AllNames P b × AllNames P p
  AllNames P (Tree.loop p at) = AllNames P p
  AllNames P (Tree.field n p at) = P n × AllNames P p
  AllNames P (Tree.assign p becomes_at q at) = AllNames P p × AllNames P q
  AllNames P (Tree.chain p links at) = AllNames P p × AllNamesOfLinks P links
  AllNames P (Tree.prefixed operators p at) = AllNames P p
  AllNames P (Tree.apply p arguments at) = AllNames P p × AllNamesOf P arguments
  AllNames P (Tree.select p names at) = AllNames P p × AllListed P names
  AllNames P (Tree.ident n at) = P n
  AllNames P (Tree.number v at) = Unit {0}
  AllNames P (Tree.letter c at) = Unit {0}
  AllNames P (Tree.string bytes at) = Unit {0}
  AllNames P (Tree.truth b at) = Unit {0}
  AllNames P (Tree.skip at) = Unit {0}
  AllNames P (Tree.group p at) = AllNames P p
  AllNames P (Tree.seq_of parts at) = AllNamesOf P parts

  pub AllNamesOf : (ℕ → Type 0) → Trees → Type 0
  AllNamesOf P Trees.no_trees = Unit {0}
  AllNamesOf P (Trees.and_tree p more) = AllNames P p × AllNamesOf P more

  pub AllNamesOfDefs : (ℕ → Type 0) → Defs → Type 0
  AllNamesOfDefs P Defs.no_defs = Unit {0}
  AllNamesOfDefs P (Defs.and_def n at p more) = P n × AllNames P p × AllNamesOfDefs P more

  pub AllNamesOfLinks : (ℕ → Type 0) → Links → Type 0
  AllNamesOfLinks P Links.no_links = Unit {0}
  AllNamesOfLinks P (Links.and_link op at p more) = AllNames P p × AllNamesOfLinks P more
