-- The tokens of a tree are within the ranges of the program's types, and none is the end.
use Rattle.std.proofs.Common.{ℕ, w64, FitsSigned, ◌<◌, List, [], ◌∷◌}
use Rattle.fy_base.specs.declared.data.BinOp.{BinOp}
use Rattle.fy_base.specs.declared.data.BinOp.TheVariants as op
use Rattle.fy_base.specs.declared.data.UnOp.{UnOp}
use Rattle.fy_base.specs.declared.data.UnOp.TheVariants as unary
use Rattle.fy_base.specs.declared.data.Place.{Place}
use Rattle.fy_lexer.specs.declared.token.Token.{Token}
use Rattle.fy_lexer.specs.declared.token.TokenKind.{TokenKind}
use Rattle.fy_lexer.specs.declared.token.TokenKind.TheVariants as kind
use Rattle.fy_lexer.specs.declared.token.Symbol.{Symbol}
use Rattle.fy_syntax.specs.declared.surface.Prefixed.{Prefixed}
use Rattle.fy_syntax.specs.Trees.{TypeTree, TypeTrees, DeclTree, Tree, Trees, Defs, Links}
use Rattle.fy_syntax.specs.Signs.{Level, TypeLevel, operator_sign, prefix_sign}
use Rattle.fy_syntax.specs.Spells.{Fields, Dots, Prefixes, SpellsType, MoreTypes, MoreDecls, SpellsBefore, MoreTrees, MoreDefs, MoreLinks, MoreArguments, merge_of, sequence_of, chain_of, prefixed_of, apply_of, select_of}
use Rattle.fy_syntax.specs.Ranges.{AreBytes, IsInRanges, AreInRanges, AreDefsInRanges, AreLinksInRanges}

abbrev pub IsKindInRange : TokenKind → Type 0
IsKindInRange (kind.Number v) = FitsSigned w64 v
IsKindInRange (kind.Letter c) = c < 256
IsKindInRange (kind.Str bytes) = AreBytes bytes
IsKindInRange kind.End = ⊥
IsKindInRange _ = Unit {0}

abbrev pub AreKindsInRange : List Token → Type 0
AreKindsInRange [] = Unit {0}
AreKindsInRange (t ∷ ts) = IsKindInRange t.kind × AreKindsInRange ts

operator_range : (o : BinOp) → IsKindInRange (operator_sign o)
operator_range = elim [
  | op.Add ↦ tt
  | op.Sub ↦ tt
  | op.Mul ↦ tt
  | op.Div ↦ tt
  | op.Rem ↦ tt
  | op.Eq ↦ tt
  | op.Ne ↦ tt
  | op.Lt ↦ tt
  | op.Le ↦ tt
  | op.Gt ↦ tt
  | op.Ge ↦ tt
  | op.And ↦ tt
  | op.Or ↦ tt
]

prefix_range : (o : UnOp) → IsKindInRange (prefix_sign o)
prefix_range = elim [
  | unary.Neg ↦ tt
  | unary.Not ↦ tt
  | unary.Ord ↦ tt
  | unary.Chr ↦ tt
]

fields_range : {names : List ℕ} {ts r : List Token} → Fields names ts r → AreKindsInRange r → AreKindsInRange ts
fields_range Fields.no_fields h = h
fields_range (Fields.and_field x) h = (tt, (tt, fields_range x h))

dots_range : {names : List ℕ} {ts r : List Token} → Dots names ts r → AreKindsInRange r → AreKindsInRange ts
dots_range Dots.no_dots h = h
dots_range (Dots.and_dot x) h = (tt, (tt, dots_range x h))

prefixes_range : {operators : List Prefixed} {ts r : List Token} → Prefixes operators ts r → AreKindsInRange r → AreKindsInRange ts
prefixes_range Prefixes.no_prefixes h = h
prefixes_range (Prefixes.and_prefix {op = op} x) h = (prefix_range op, prefixes_range x h)

mutual
  type_range : {l : TypeLevel} {a : TypeTree} {ts r : List Token} → SpellsType l a ts r → AreKindsInRange r → AreKindsInRange ts
  type_range (SpellsType.arrow x y) h = type_range x (tt, type_range y h)
  type_range (SpellsType.no_arrow x) h = type_range x h
  type_range (SpellsType.inter x y) h = type_range x (types_range y h)
  type_range (SpellsType.field x y) h = fields_range x (type_range y h)
  type_range SpellsType.ns h = (tt, h)
  type_range SpellsType.atom h = (tt, h)
  type_range SpellsType.ident h = (tt, h)
  type_range (SpellsType.group x) h = (tt, type_range x (tt, h))

  types_range : {s : Symbol} {l : TypeLevel} {more : TypeTrees} {ts r : List Token} → MoreTypes s l more ts r → AreKindsInRange r → AreKindsInRange ts
  types_range MoreTypes.no_types h = h
  types_range (MoreTypes.and_type x y) h = (tt, type_range x (types_range y h))

decls_range : {more : List DeclTree} {ts r : List Token} → MoreDecls more ts r → AreKindsInRange r → AreKindsInRange ts
decls_range MoreDecls.no_decls h = h
decls_range (MoreDecls.and_decl x y) h = (tt, (tt, (tt, type_range x (decls_range y h))))

merge_parts : (t : Tree) (more : Trees) (p : Place) → IsInRanges (merge_of t more p) → IsInRanges t × AreInRanges more
merge_parts t Trees.no_trees p h = (h, tt)
merge_parts t (Trees.and_tree u more) p h = h

sequence_parts : (t : Tree) (more : Trees) (p : Place) → IsInRanges (sequence_of t more p) → IsInRanges t × AreInRanges more
sequence_parts t Trees.no_trees p h = (h, tt)
sequence_parts t (Trees.and_tree u more) p h = h

chain_parts : (t : Tree) (more : Links) (p : Place) → IsInRanges (chain_of t more p) → IsInRanges t × AreLinksInRanges more
chain_parts t Links.no_links p h = (h, tt)
chain_parts t (Links.and_link op q u more) p h = h

prefixed_part : (operators : List Prefixed) (t : Tree) (p : Place) → IsInRanges (prefixed_of operators t p) → IsInRanges t
prefixed_part [] t p h = h
prefixed_part (o ∷ operators) t p h = h

apply_parts : (t : Tree) (more : Trees) (p : Place) → IsInRanges (apply_of t more p) → IsInRanges t × AreInRanges more
apply_parts t Trees.no_trees p h = (h, tt)
apply_parts t (Trees.and_tree u more) p h = h

select_part : (t : Tree) (names : List ℕ) (p : Place) → IsInRanges (select_of t names p) → IsInRanges t
select_part t [] p h = h
select_part t (n ∷ names) p h = h

mutual
  pub tree_range : {l : Level} {t : Tree} {ts r : List Token} → SpellsBefore l t ts r → IsInRanges t → AreKindsInRange r → AreKindsInRange ts
  tree_range (SpellsBefore.phrase {t = t} {more = more} x y) h k = let g = merge_parts t more _ h in tree_range x g.0 (trees_range y g.1 k)
  tree_range (SpellsBefore.sequence {t = t} {more = more} x y) h k = let g = sequence_parts t more _ h in tree_range x g.0 (trees_range y g.1 k)
  tree_range (SpellsBefore.lam x y z) h k = (tt, (tt, (tt, type_range x (types_range y (tt, tree_range z h k)))))
  tree_range (SpellsBefore.let_in x y z) h k = (tt, (tt, (tt, tree_range x h.0.0 (defs_range y h.0.1 (tt, tree_range z h.1 k)))))
  tree_range (SpellsBefore.letrec a b x y z) h k =
      (tt, (tt, (tt, type_range a (decls_range b (tt, (tt, (tt, tree_range x h.0.0 (defs_range y h.0.1 (tt, tree_range z h.1 k)))))))))
  tree_range (SpellsBefore.let_type a x) h k = (tt, (tt, (tt, type_range a (tt, tree_range x h k))))
  tree_range (SpellsBefore.new d x y) h k = (tt, (tt, (tt, (tt, (tt, tree_range x h.0 (tt, tree_range y h.1 k))))))
  tree_range (SpellsBefore.escape x) h k = (tt, (tt, (tt, tree_range x h k)))
  tree_range (SpellsBefore.accept d x) h k = (tt, (tt, (tt, (tt, (tt, tree_range x h k)))))
  tree_range (SpellsBefore.cond x y z) h k = (tt, tree_range x h.0 (tt, tree_range y h.1 (tt, tree_range z h.2 k)))
  tree_range (SpellsBefore.while_do x y) h k = (tt, tree_range x h.0 (tt, tree_range y h.1 k))
  tree_range (SpellsBefore.loop x) h k = (tt, tree_range x h k)
  tree_range (SpellsBefore.field x) h k = (tt, (tt, tree_range x h k))
  tree_range (SpellsBefore.assign x y) h k = tree_range x h.0 (tt, tree_range y h.1 k)
  tree_range (SpellsBefore.no_assign x) h k = tree_range x h k
  tree_range (SpellsBefore.either {t = t} {more = more} x y) h k = let g = chain_parts t more _ h in tree_range x g.0 (links_range y g.1 k)
  tree_range (SpellsBefore.both {t = t} {more = more} x y) h k = let g = chain_parts t more _ h in tree_range x g.0 (links_range y g.1 k)
  tree_range (SpellsBefore.related {op = op} o x y) h k = tree_range x h.0 (operator_range op, tree_range y h.1.0 k)
  tree_range (SpellsBefore.no_relation x) h k = tree_range x h k
  tree_range (SpellsBefore.sum {t = t} {more = more} x y) h k = let g = chain_parts t more _ h in tree_range x g.0 (links_range y g.1 k)
  tree_range (SpellsBefore.product {t = t} {more = more} x y) h k = let g = chain_parts t more _ h in tree_range x g.0 (links_range y g.1 k)
  tree_range (SpellsBefore.prefixed {operators = operators} {t = t} x y) h k = prefixes_range x (tree_range y (prefixed_part operators t _ h) k)
  tree_range (SpellsBefore.apply {t = t} {more = more} x y) h k = let g = apply_parts t more _ h in tree_range x g.0 (arguments_range y g.1 k)
  tree_range (SpellsBefore.select {t = t} {names = names} x y) h k = tree_range x (select_part t names _ h) (dots_range y k)
  tree_range SpellsBefore.ident h k = (tt, k)
  tree_range SpellsBefore.number h k = (h, k)
  tree_range SpellsBefore.letter h k = (h, k)
  tree_range SpellsBefore.string h k = (h, k)
  tree_range SpellsBefore.truth h k = (tt, k)
  tree_range SpellsBefore.skip h k = (tt, k)
  tree_range (SpellsBefore.group x) h k = (tt, tree_range x h (tt, k))
  tree_range (SpellsBefore.seq_of x y) h k = (tt, (tt, tree_range x h.0 (trees_range y h.1 (tt, k))))

  pub trees_range : {s : Symbol} {l : Level} {more : Trees} {ts r : List Token} → MoreTrees s l more ts r → AreInRanges more → AreKindsInRange r → AreKindsInRange ts
  trees_range MoreTrees.no_trees h k = k
  trees_range (MoreTrees.and_tree x y) h k = (tt, tree_range x h.0 (trees_range y h.1 k))

  pub defs_range : {more : Defs} {ts r : List Token} → MoreDefs more ts r → AreDefsInRanges more → AreKindsInRange r → AreKindsInRange ts
  defs_range MoreDefs.no_defs h k = k
  defs_range (MoreDefs.and_def x y) h k = (tt, (tt, (tt, tree_range x h.0 (defs_range y h.1 k))))

  pub links_range : {c l : Level} {more : Links} {ts r : List Token} → MoreLinks c l more ts r → AreLinksInRanges more → AreKindsInRange r → AreKindsInRange ts
  links_range MoreLinks.no_links h k = k
  links_range (MoreLinks.and_link {op = op} o x y) h k = (operator_range op, tree_range x h.0 (links_range y h.1 k))

  pub arguments_range : {more : Trees} {ts r : List Token} → MoreArguments more ts r → AreInRanges more → AreKindsInRange r → AreKindsInRange ts
  arguments_range MoreArguments.no_arguments h k = k
  arguments_range (MoreArguments.and_argument x y) h k = tree_range x h.0 (arguments_range y h.1 k)
