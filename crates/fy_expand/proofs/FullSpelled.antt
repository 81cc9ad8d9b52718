-- The types of a tree that some tokens spell are full: the grammar has no meet of fewer than two types, and no `letrec` without a declaration.
use Rattle.std.proofs.Common.{List, [], ◌∷◌, ℕ}
use Rattle.fy_base.specs.declared.data.Place.{Place}
use Rattle.fy_lexer.specs.declared.token.Token.{Token}
use Rattle.fy_lexer.specs.declared.token.Symbol.{Symbol}
use Rattle.fy_syntax.specs.declared.surface.Prefixed.{Prefixed}
use Rattle.fy_syntax.specs.Trees.{TypeTree, TypeTrees, DeclTree, Tree, Trees, Defs, Links}
use Rattle.fy_syntax.specs.Signs.{Level, TypeLevel}
use Rattle.fy_syntax.specs.Spells.{SpellsType, MoreTypes, MoreDecls, SpellsBefore, MoreTrees, MoreDefs, MoreLinks, MoreArguments, IsProgram, meet_of, field_of, merge_of, sequence_of, chain_of, prefixed_of, apply_of, select_of}
use Rattle.fy_expand.proofs.FullLemmas.{IsFullType, AreFullTypes, AreFullDecls, IsFull, AreFull, AreFullDefs, AreFullLinks}

-- ---- written types

full-meet_of : (a : TypeTree) (more : TypeTrees) (at : Place) → IsFullType a → AreFullTypes more → IsFullType (meet_of a more at)
full-meet_of a TypeTrees.no_types at h k = h
full-meet_of a (TypeTrees.and_type b more) at h k = (tt, (h, k))

full-field_of : (names : List ℕ) (a : TypeTree) (at : Place) → IsFullType a → IsFullType (field_of names a at)
full-field_of [] a at h = h
full-field_of (n ∷ names) a at h = h

mutual
  full-type : {l : TypeLevel} {a : TypeTree} {ts r : List Token} → SpellsType l a ts r → IsFullType a
  full-type (SpellsType.arrow h k) = (full-type h, full-type k)
  full-type (SpellsType.no_arrow h) = full-type h
  full-type (SpellsType.inter {a = a} {more = more} h k) = full-meet_of a more _ (full-type h) (full-types k)
  full-type (SpellsType.field {names = names} {a = a} f h) = full-field_of names a _ (full-type h)
  full-type SpellsType.ns = tt
  full-type SpellsType.atom = tt
  full-type SpellsType.ident = tt
  full-type (SpellsType.group h) = full-type h

  full-types : {s : Symbol} {l : TypeLevel} {members : TypeTrees} {ts r : List Token} → MoreTypes s l members ts r → AreFullTypes members
  full-types MoreTypes.no_types = tt
  full-types (MoreTypes.and_type h k) = (full-type h, full-types k)

full-decls : {decls : List DeclTree} {ts r : List Token} → MoreDecls decls ts r → AreFullDecls decls
full-decls MoreDecls.no_decls = tt
full-decls (MoreDecls.and_decl h k) = (full-type h, full-decls k)

-- ---- phrases

full-merge_of : (p : Tree) (more : Trees) (at : Place) → IsFull p → AreFull more → IsFull (merge_of p more at)
full-merge_of p Trees.no_trees at h k = h
full-merge_of p (Trees.and_tree q more) at h k = (h, k)

full-sequence_of : (p : Tree) (more : Trees) (at : Place) → IsFull p → AreFull more → IsFull (sequence_of p more at)
full-sequence_of p Trees.no_trees at h k = h
full-sequence_of p (Trees.and_tree q more) at h k = (h, k)

full-chain_of : (p : Tree) (more : Links) (at : Place) → IsFull p → AreFullLinks more → IsFull (chain_of p more at)
full-chain_of p Links.no_links at h k = h
full-chain_of p (Links.and_link op here q more) at h k = (h, k)

full-prefixed_of : (operators : List Prefixed) (p : Tree) (at : Place) → IsFull p → IsFull (prefixed_of operators p at)
full-prefixed_of [] p at h = h
full-prefixed_of (o ∷ operators) p at h = h

full-apply_of : (p : Tree) (more : Trees) (at : Place) → IsFull p → AreFull more → IsFull (apply_of p more at)
full-apply_of p Trees.no_trees at h k = h
full-apply_of p (Trees.and_tree q more) at h k = (h, k)

full-select_of : (p : Tree) (names : List ℕ) (at : Place) → IsFull p → IsFull (select_of p names at)
full-select_of p [] at h = h
full-select_of p (n ∷ names) at h = h

mutual
  full-spelled : {l : Level} {p : Tree} {ts r : List Token} → SpellsBefore l p ts r → IsFull p
  full-spelled (SpellsBefore.phrase {t = t} {more = more} {ts = ts} h k) = full-merge_of t more _ (full-spelled h) (full-trees k)
  full-spelled (SpellsBefore.sequence {t = t} {more = more} h k) = full-sequence_of t more _ (full-spelled h) (full-trees k)
  full-spelled (SpellsBefore.lam a b h) = ((full-type a, full-types b), full-spelled h)
  full-spelled (SpellsBefore.let_in h k l) = ((full-spelled h, full-defs k), full-spelled l)
  full-spelled (SpellsBefore.letrec a b h k l) = ((full-type a, full-decls b), (full-spelled h, full-defs k), full-spelled l)
  full-spelled (SpellsBefore.let_type a h) = (full-type a, full-spelled h)
  full-spelled (SpellsBefore.new d h k) = (full-spelled h, full-spelled k)
  full-spelled (SpellsBefore.escape h) = full-spelled h
  full-spelled (SpellsBefore.accept d h) = full-spelled h
  full-spelled (SpellsBefore.cond h k l) = (full-spelled h, full-spelled k, full-spelled l)
  full-spelled (SpellsBefore.while_do h k) = (full-spelled h, full-spelled k)
  full-spelled (SpellsBefore.loop h) = full-spelled h
  full-spelled (SpellsBefore.field h) = full-spelled h
  full-spelled (SpellsBefore.assign h k) = (full-spelled h, full-spelled k)
  full-spelled (SpellsBefore.no_assign h) = full-spelled h
  full-spelled (SpellsBefore.either {t = t} {more = more} h k) = full-chain_of t more _ (full-spelled h) (full-links k)
  full-spelled (SpellsBefore.both {t = t} {more = more} h k) = full-chain_of t more _ (full-spelled h) (full-links k)
  full-spelled (SpellsBefore.related e h k) = (full-spelled h, (full-spelled k, tt))
  full-spelled (SpellsBefore.no_relation h) = full-spelled h
  full-spelled (SpellsBefore.sum {t = t} {more = more} h k) = full-chain_of t more _ (full-spelled h) (full-links k)
  full-spelled (SpellsBefore.product {t = t} {more = more} h k) = full-chain_of t more _ (full-spelled h) (full-links k)
  full-spelled (SpellsBefore.prefixed {operators = operators} {t = t} o h) = full-prefixed_of operators t _ (full-spelled h)
  full-spelled (SpellsBefore.apply {t = t} {more = more} h k) = full-apply_of t more _ (full-spelled h) (full-arguments k)
  full-spelled (SpellsBefore.select {t = t} {names = names} h d) = full-select_of t names _ (full-spelled h)
  full-spelled SpellsBefore.ident = tt
  full-spelled SpellsBefore.number = tt
  full-spelled SpellsBefore.letter = tt
  full-spelled SpellsBefore.string = tt
  full-spelled SpellsBefore.truth = tt
  full-spelled SpellsBefore.skip = tt
  full-spelled (SpellsBefore.group h) = full-spelled h
  full-spelled (SpellsBefore.seq_of h k) = (full-spelled h, full-trees k)

  full-trees : {s : Symbol} {l : Level} {ps : Trees} {ts r : List Token} → MoreTrees s l ps ts r → AreFull ps
  full-trees MoreTrees.no_trees = tt
  full-trees (MoreTrees.and_tree h k) = (full-spelled h, full-trees k)

  full-defs : {ps : Defs} {ts r : List Token} → MoreDefs ps ts r → AreFullDefs ps
  full-defs MoreDefs.no_defs = tt
  full-defs (MoreDefs.and_def h k) = (full-spelled h, full-defs k)

  full-links : {c l : Level} {ps : Links} {ts r : List Token} → MoreLinks c l ps ts r → AreFullLinks ps
  full-links MoreLinks.no_links = tt
  full-links (MoreLinks.and_link e h k) = (full-spelled h, full-links k)

  full-arguments : {ps : Trees} {ts r : List Token} → MoreArguments ps ts r → AreFull ps
  full-arguments MoreArguments.no_arguments = tt
  full-arguments (MoreArguments.and_argument h k) = (full-spelled h, full-arguments k)

pub full-program : (tree : Tree) (tokens : List Token) → IsProgram tree tokens → IsFull tree
full-program tree tokens h = full-spelled h.1
