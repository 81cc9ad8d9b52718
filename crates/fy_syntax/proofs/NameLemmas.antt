-- Each name in a tree that some tokens spell is that of an identifier among them.
use Rattle.std.proofs.Common.{ℕ, IsTrue, List, [], ◌∷◌}
use Rattle.fy_base.specs.declared.data.Place.{Place}
use Rattle.fy_types.specs.Fields.{IsNamed}
use Rattle.fy_lexer.specs.declared.token.Token.{Token}
use Rattle.fy_lexer.specs.declared.token.Symbol.{Symbol}
use Rattle.fy_lexer.specs.Identifiers.{AllIdentifiers}
use Rattle.fy_syntax.specs.declared.surface.Prefixed.{Prefixed}
use Rattle.fy_syntax.specs.Trees.{TypeTree, TypeTrees, DeclTree, Tree, Trees, Defs, Links}
use Rattle.fy_syntax.specs.TreeNames.{AllListed, AllTypeNames, AllNamesOfTypes, AllNamesOfDecls, AllNames, AllNamesOf, AllNamesOfDefs, AllNamesOfLinks}
use Rattle.fy_syntax.specs.NameLaws.{NamesAreOfTokens}
use Rattle.fy_syntax.specs.Signs.{Level, TypeLevel}
use Rattle.fy_syntax.specs.Spells.{meet_of, field_of, merge_of, sequence_of, chain_of, prefixed_of, apply_of, select_of, Fields, no_fields, and_field, Dots, no_dots, and_dot, Prefixes, no_prefixes, and_prefix, SpellsType, MoreTypes, MoreDecls, no_decls, and_decl, SpellsBefore, MoreTrees, MoreDefs, MoreLinks, MoreArguments, IsProgram}

module _ (P : ℕ → Type 0) where
  -- ---- lists of one item
  names-meet_of : (a : TypeTree) (more : TypeTrees) (at : Place) → AllTypeNames P a → AllNamesOfTypes P more → AllTypeNames P (meet_of a more at)
  names-meet_of a TypeTrees.no_types at h k = h
  names-meet_of a (TypeTrees.and_type b more) at h k = (h, k)

  names-field_of : (names : List ℕ) (a : TypeTree) (at : Place) → AllListed P names → AllTypeNames P a → AllTypeNames P (field_of names a at)
  names-field_of [] a at h k = k
  names-field_of (n ∷ names) a at h k = (h, k)

  names-merge_of : (p : Tree) (more : Trees) (at : Place) → AllNames P p → AllNamesOf P more → AllNames P (merge_of p more at)
  names-merge_of p Trees.no_trees at h k = h
  names-merge_of p (Trees.and_tree q more) at h k = (h, k)

  names-sequence_of : (p : Tree) (more : Trees) (at : Place) → AllNames P p → AllNamesOf P more → AllNames P (sequence_of p more at)
  names-sequence_of p Trees.no_trees at h k = h
  names-sequence_of p (Trees.and_tree q more) at h k = (h, k)

  names-chain_of : (p : Tree) (more : Links) (at : Place) → AllNames P p → AllNamesOfLinks P more → AllNames P (chain_of p more at)
  names-chain_of p Links.no_links at h k = h
  names-chain_of p (Links.and_link op here q more) at h k = (h, k)

  names-prefixed_of : (operators : List Prefixed) (p : Tree) (at : Place) → AllNames P p → AllNames P (prefixed_of operators p at)
  names-prefixed_of [] p at h = h
  names-prefixed_of (o ∷ operators) p at h = h

  names-apply_of : (p : Tree) (more : Trees) (at : Place) → AllNames P p → AllNamesOf P more → AllNames P (apply_of p more at)
  names-apply_of p Trees.no_trees at h k = h
  names-apply_of p (Trees.and_tree q more) at h k = (h, k)

  names-select_of : (p : Tree) (names : List ℕ) (at : Place) → AllNames P p → AllListed P names → AllNames P (select_of p names at)
  names-select_of p [] at h k = h
  names-select_of p (n ∷ names) at h k = (h, k)

  -- ---- what is spelled, and the rest of the tokens
  fields_named : {names : List ℕ} {ts r : List Token} → Fields names ts r → AllIdentifiers P ts → AllListed P names × AllIdentifiers P r
  fields_named no_fields h = (tt, h)
  fields_named (and_field f) h = let t = fields_named f h.1.1 in ((h.0, t.0), t.1)

  dots_named : {names : List ℕ} {ts r : List Token} → Dots names ts r → AllIdentifiers P ts → AllListed P names × AllIdentifiers P r
  dots_named no_dots h = (tt, h)
  dots_named (and_dot f) h = let t = dots_named f h.1.1 in ((h.1.0, t.0), t.1)

  prefixes_named : {operators : List Prefixed} {ts r : List Token} → Prefixes operators ts r → AllIdentifiers P ts → AllIdentifiers P r
  prefixes_named no_prefixes h = h
  prefixes_named (and_prefix o) h = prefixes_named o h.1

  mutual
    type_named : {l : TypeLevel} {a : TypeTree} {ts r : List Token} → SpellsType l a ts r → AllIdentifiers P ts →
        AllTypeNames P a × AllIdentifiers P r
    type_named (SpellsType.arrow a b) h =
        let t = type_named a h in
        let u = type_named b t.1.1 in
        ((t.0, u.0), u.1)
    type_named (SpellsType.no_arrow a) h = type_named a h
    type_named (SpellsType.inter {a = a} {more = more} s k) h =
        let t = type_named s h in
        let u = types_named k t.1 in
        (names-meet_of a more _ t.0 u.0, u.1)
    type_named (SpellsType.field {names = names} {a = a} f s) h =
        let t = fields_named f h in
        let u = type_named s t.1 in
        (names-field_of names a _ t.0 u.0, u.1)
    type_named SpellsType.ns h = (tt, h.1)
    type_named SpellsType.atom h = (tt, h.1)
    type_named SpellsType.ident h = (h.0, h.1)
    type_named (SpellsType.group a) h = let t = type_named a h.1 in (t.0, t.1.1)

    types_named : {s : Symbol} {l : TypeLevel} {more : TypeTrees} {ts r : List Token} → MoreTypes s l more ts r → AllIdentifiers P ts →
        AllNamesOfTypes P more × AllIdentifiers P r
    types_named MoreTypes.no_types h = (tt, h)
    types_named (MoreTypes.and_type a k) h =
        let t = type_named a h.1 in
        let u = types_named k t.1 in
        ((t.0, u.0), u.1)

  decls_named : {decls : List DeclTree} {ts r : List Token} → MoreDecls decls ts r → AllIdentifiers P ts → AllNamesOfDecls P decls × AllIdentifiers P r
  decls_named no_decls h = (tt, h)
  decls_named (and_decl a k) h =
      let t = type_named a h.1.1.1 in
      let u = decls_named k t.1 in
      ((h.1.0, t.0, u.0), u.1)

  mutual
    tree_named : {l : Level} {p : Tree} {ts r : List Token} → SpellsBefore l p ts r → AllIdentifiers P ts → AllNames P p × AllIdentifiers P r
    tree_named (SpellsBefore.phrase {t = p} {more = more} s k) h =
        let t = tree_named s h in
        let u = trees_named k t.1 in
        (names-merge_of p more _ t.0 u.0, u.1)
    tree_named (SpellsBefore.sequence {t = p} {more = more} s k) h =
        let t = tree_named s h in
        let u = trees_named k t.1 in
        (names-sequence_of p more _ t.0 u.0, u.1)
    tree_named (SpellsBefore.lam a b s) h =
        let t = type_named a h.1.1.1 in
        let u = types_named b t.1 in
        let v = tree_named s u.1.1 in
        ((h.1.0, (t.0, u.0), v.0), v.1)
    tree_named (SpellsBefore.let_in s d e) h =
        let t = tree_named s h.1.1.1 in
        let u = defs_named d t.1 in
        let v = tree_named e u.1.1 in
        (((h.1.0, t.0, u.0), v.0), v.1)
    tree_named (SpellsBefore.letrec a b s d e) h =
        let t = type_named a h.1.1.1 in
        let u = decls_named b t.1 in
        let v = tree_named s u.1.1.1.1 in
        let w = defs_named d v.1 in
        let x = tree_named e w.1.1 in
        (((h.1.0, t.0, u.0), (u.1.1.0, v.0, w.0), x.0), x.1)
    tree_named (SpellsBefore.let_type a s) h =
        let t = type_named a h.1.1.1 in
        let u = tree_named s t.1.1 in
        ((h.1.0, t.0, u.0), u.1)
    tree_named (SpellsBefore.new d s e) h =
        let t = tree_named s h.1.1.1.1.1 in
        let u = tree_named e t.1.1 in
        ((h.1.0, t.0, u.0), u.1)
    tree_named (SpellsBefore.escape s) h = let t = tree_named s h.1.1.1 in ((h.1.0, t.0), t.1)
    tree_named (SpellsBefore.accept d s) h = let t = tree_named s h.1.1.1.1.1 in ((h.1.0, t.0), t.1)
    tree_named (SpellsBefore.cond a s e) h =
        let t = tree_named a h.1 in
        let u = tree_named s t.1.1 in
        let v = tree_named e u.1.1 in
        ((t.0, u.0, v.0), v.1)
    tree_named (SpellsBefore.while_do a s) h =
        let t = tree_named a h.1 in
        let u = tree_named s t.1.1 in
        ((t.0, u.0), u.1)
    tree_named (SpellsBefore.loop s) h = tree_named s h.1
    tree_named (SpellsBefore.field s) h = let t = tree_named s h.1.1 in ((h.0, t.0), t.1)
    tree_named (SpellsBefore.assign s e) h =
        let t = tree_named s h in
        let u = tree_named e t.1.1 in
        ((t.0, u.0), u.1)
    tree_named (SpellsBefore.no_assign s) h = tree_named s h
    tree_named (SpellsBefore.either {t = p} {more = more} s k) h =
        let t = tree_named s h in
        let u = links_named k t.1 in
        (names-chain_of p more _ t.0 u.0, u.1)
    tree_named (SpellsBefore.both {t = p} {more = more} s k) h =
        let t = tree_named s h in
        let u = links_named k t.1 in
        (names-chain_of p more _ t.0 u.0, u.1)
    tree_named (SpellsBefore.related i s e) h =
        let t = tree_named s h in
        let u = tree_named e t.1.1 in
        ((t.0, (u.0, tt)), u.1)
    tree_named (SpellsBefore.no_relation s) h = tree_named s h
    tree_named (SpellsBefore.sum {t = p} {more = more} s k) h =
        let t = tree_named s h in
        let u = links_named k t.1 in
        (names-chain_of p more _ t.0 u.0, u.1)
    tree_named (SpellsBefore.product {t = p} {more = more} s k) h =
        let t = tree_named s h in
        let u = links_named k t.1 in
        (names-chain_of p more _ t.0 u.0, u.1)
    tree_named (SpellsBefore.prefixed {operators = operators} {t = p} o s) h =
        let t = tree_named s (prefixes_named o h) in
        (names-prefixed_of operators p _ t.0, t.1)
    tree_named (SpellsBefore.apply {t = p} {more = more} s k) h =
        let t = tree_named s h in
        let u = arguments_named k t.1 in
        (names-apply_of p more _ t.0 u.0, u.1)
    tree_named (SpellsBefore.select {t = p} {names = names} s d) h =
        let t = tree_named s h in
        let u = dots_named d t.1 in
        (names-select_of p names _ t.0 u.0, u.1)
    tree_named SpellsBefore.ident h = (h.0, h.1)
    tree_named SpellsBefore.number h = (tt, h.1)
    tree_named SpellsBefore.letter h = (tt, h.1)
    tree_named SpellsBefore.string h = (tt, h.1)
    tree_named SpellsBefore.truth h = (tt, h.1)
    tree_named SpellsBefore.skip h = (tt, h.1)
    tree_named (SpellsBefore.group s) h = let t = tree_named s h.1 in (t.0, t.1.1)
    tree_named (SpellsBefore.seq_of s k) h =
        let t = tree_named s h.1.1 in
        let u = trees_named k t.1 in
        ((t.0, u.0), u.1.1)

    trees_named : {s : Symbol} {l : Level} {more : Trees} {ts r : List Token} → MoreTrees s l more ts r → AllIdentifiers P ts →
        AllNamesOf P more × AllIdentifiers P r
    trees_named MoreTrees.no_trees h = (tt, h)
    trees_named (MoreTrees.and_tree s k) h =
        let t = tree_named s h.1 in
        let u = trees_named k t.1 in
        ((t.0, u.0), u.1)

    defs_named : {more : Defs} {ts r : List Token} → MoreDefs more ts r → AllIdentifiers P ts → AllNamesOfDefs P more × AllIdentifiers P r
    defs_named MoreDefs.no_defs h = (tt, h)
    defs_named (MoreDefs.and_def s k) h =
        let t = tree_named s h.1.1.1 in
        let u = defs_named k t.1 in
        ((h.1.0, t.0, u.0), u.1)

    links_named : {c l : Level} {more : Links} {ts r : List Token} → MoreLinks c l more ts r → AllIdentifiers P ts →
        AllNamesOfLinks P more × AllIdentifiers P r
    links_named MoreLinks.no_links h = (tt, h)
    links_named (MoreLinks.and_link i s k) h =
        let t = tree_named s h.1 in
        let u = links_named k t.1 in
        ((t.0, u.0), u.1)

    arguments_named : {more : Trees} {ts r : List Token} → MoreArguments more ts r → AllIdentifiers P ts → AllNamesOf P more × AllIdentifiers P r
    arguments_named MoreArguments.no_arguments h = (tt, h)
    arguments_named (MoreArguments.and_argument s k) h =
        let t = tree_named s h in
        let u = arguments_named k t.1 in
        ((t.0, u.0), u.1)

  pub program_named : (tree : Tree) (tokens : List Token) → IsProgram tree tokens → AllIdentifiers P tokens → AllNames P tree
  program_named tree tokens s h = (tree_named s.1 h).0

pub names_are_of_tokens : NamesAreOfTokens
names_are_of_tokens = record {
  tests = λ p tree tokens s h. program_named (λ n. IsTrue (p n)) tree tokens s h;
  named = λ names tree tokens s h. program_named (IsNamed names) tree tokens s h;
}
