-- Tokens in other places spell the same tree but for places, before any rest.
use Rattle.std.proofs.Common.{◌≡◌, ◌≢◌, ◌<◌, ℕ, suc, ◌+◌, Bool, true, false, List, [], ◌∷◌, ◌++◌, length, refl, sym, ap, subst, ◌∙◌, arith, append-nil, length-append}
use Rattle.std.proofs.lemmas.Bool.{eqb-true, eq-eqb}
use Rattle.std.specs.Prelude.{if◌then◌else◌, ◌==◌}
use Rattle.fy_base.specs.declared.data.Place.{Place}
use Rattle.fy_base.specs.declared.data.BinOp.{BinOp}
use Rattle.fy_base.specs.declared.data.BinOp.TheVariants as op
use Rattle.fy_base.specs.declared.data.UnOp.{UnOp}
use Rattle.fy_base.specs.declared.data.UnOp.TheVariants as unary
use Rattle.fy_lexer.specs.declared.token.Token.{Token}
use Rattle.fy_lexer.specs.declared.token.TokenKind.{TokenKind}
use Rattle.fy_lexer.specs.declared.token.TokenKind.TheVariants as kind
use Rattle.fy_lexer.specs.declared.token.Symbol.{Symbol}
use Rattle.fy_lexer.specs.Again.{kinds, HaveNoEnd}
use Rattle.fy_syntax.specs.declared.surface.Prefixed.{Prefixed}
use Rattle.fy_syntax.specs.Trees.{TypeTree, TypeTrees, DeclTree, Tree, Trees, Defs, Links}
use Rattle.fy_syntax.specs.Signs.{token, front, Level, TypeLevel, operator_sign, prefix_sign}
use Rattle.fy_syntax.specs.Spells.{Fields, Dots, Prefixes, SpellsType, MoreTypes, MoreDecls, SpellsBefore, MoreTrees, MoreDefs, MoreLinks, MoreArguments, meet_of, field_of, merge_of, sequence_of, chain_of, prefixed_of, apply_of, select_of}
use Rattle.fy_syntax.specs.Places.{no_place, type_without_places, types_without_places, decls_without_places, operators_without_places, without_places, trees_without_places, defs_without_places, links_without_places}
use Rattle.fy_syntax.specs.Again.{IsSpelledAgain, PhrasesAreSpelledAgain}

-- at the end of a text the rest, else more
abbrev pub past_end : TokenKind → List Token → List Token → List Token
past_end kind.End rest more = rest
past_end (kind.Ident n) rest more = more
past_end (kind.Number n) rest more = more
past_end (kind.Letter n) rest more = more
past_end (kind.Str n) rest more = more
past_end (kind.Word n) rest more = more
past_end (kind.Sym n) rest more = more

-- the tokens in other places, each by the number of those behind it, and then a rest in place of what begins with the end
abbrev pub placed : (ℕ → Place) → List Token → List Token → List Token
placed g rest [] = rest
placed g rest (t ∷ ts) = past_end t.kind rest (token t.kind (g (length ts)) ∷ placed g rest ts)

-- the same tree but for places
pub record MovedType (l : TypeLevel) (a : TypeTree) (ts r : List Token) : Type 0 where
  pub type : TypeTree
  pub spells : SpellsType l type ts r
  pub same : type_without_places type ≡ type_without_places a

pub record MovedTypes (s : Symbol) (l : TypeLevel) (more : TypeTrees) (ts r : List Token) : Type 0 where
  pub types : TypeTrees
  pub spells : MoreTypes s l types ts r
  pub same : types_without_places types ≡ types_without_places more

pub record MovedDecls (more : List DeclTree) (ts r : List Token) : Type 0 where
  pub decls : List DeclTree
  pub spells : MoreDecls decls ts r
  pub same : decls_without_places decls ≡ decls_without_places more

pub record MovedPrefixes (operators : List Prefixed) (ts r : List Token) : Type 0 where
  pub operators_too : List Prefixed
  pub spells : Prefixes operators_too ts r
  pub same : operators_without_places operators_too ≡ operators_without_places operators

pub record MovedTree (l : Level) (t : Tree) (ts r : List Token) : Type 0 where
  pub tree : Tree
  pub spells : SpellsBefore l tree ts r
  pub same : without_places tree ≡ without_places t

pub record MovedTrees (s : Symbol) (l : Level) (more : Trees) (ts r : List Token) : Type 0 where
  pub trees : Trees
  pub spells : MoreTrees s l trees ts r
  pub same : trees_without_places trees ≡ trees_without_places more

pub record MovedDefs (more : Defs) (ts r : List Token) : Type 0 where
  pub defs : Defs
  pub spells : MoreDefs defs ts r
  pub same : defs_without_places defs ≡ defs_without_places more

pub record MovedLinks (c l : Level) (more : Links) (ts r : List Token) : Type 0 where
  pub links : Links
  pub spells : MoreLinks c l links ts r
  pub same : links_without_places links ≡ links_without_places more

pub record MovedArguments (more : Trees) (ts r : List Token) : Type 0 where
  pub trees : Trees
  pub spells : MoreArguments trees ts r
  pub same : trees_without_places trees ≡ trees_without_places more

-- what a list of one item is, but for places
meet_same : (a b : TypeTree) (more others : TypeTrees) (p q : Place) → type_without_places a ≡ type_without_places b → types_without_places more ≡ types_without_places others →
    type_without_places (meet_of a more p) ≡ type_without_places (meet_of b others q)
meet_same a b TypeTrees.no_types TypeTrees.no_types p q e f = e
meet_same a b TypeTrees.no_types (TypeTrees.and_type c others) p q e f = absurd cc
meet_same a b (TypeTrees.and_type c more) TypeTrees.no_types p q e f = absurd cc
meet_same a b (TypeTrees.and_type c more) (TypeTrees.and_type d others) p q e f = cc

field_same : (fields : List ℕ) (a b : TypeTree) (p q : Place) → type_without_places a ≡ type_without_places b → type_without_places (field_of fields a p) ≡ type_without_places (field_of fields b q)
field_same [] a b p q e = e
field_same (n ∷ fields) a b p q e = cc

merge_same : (t u : Tree) (more others : Trees) (p q : Place) → without_places t ≡ without_places u → trees_without_places more ≡ trees_without_places others →
    without_places (merge_of t more p) ≡ without_places (merge_of u others q)
merge_same t u Trees.no_trees Trees.no_trees p q e f = e
merge_same t u Trees.no_trees (Trees.and_tree v others) p q e f = absurd cc
merge_same t u (Trees.and_tree v more) Trees.no_trees p q e f = absurd cc
merge_same t u (Trees.and_tree v more) (Trees.and_tree w others) p q e f = cc

sequence_same : (t u : Tree) (more others : Trees) (p q : Place) → without_places t ≡ without_places u → trees_without_places more ≡ trees_without_places others →
    without_places (sequence_of t more p) ≡ without_places (sequence_of u others q)
sequence_same t u Trees.no_trees Trees.no_trees p q e f = e
sequence_same t u Trees.no_trees (Trees.and_tree v others) p q e f = absurd cc
sequence_same t u (Trees.and_tree v more) Trees.no_trees p q e f = absurd cc
sequence_same t u (Trees.and_tree v more) (Trees.and_tree w others) p q e f = cc

chain_same : (t u : Tree) (more others : Links) (p q : Place) → without_places t ≡ without_places u → links_without_places more ≡ links_without_places others →
    without_places (chain_of t more p) ≡ without_places (chain_of u others q)
chain_same t u Links.no_links Links.no_links p q e f = e
chain_same t u Links.no_links (Links.and_link o h v others) p q e f = absurd cc
chain_same t u (Links.and_link o h v more) Links.no_links p q e f = absurd cc
chain_same t u (Links.and_link o h v more) (Links.and_link o' h' w others) p q e f = cc

prefixed_same : (operators others : List Prefixed) (t u : Tree) (p q : Place) → operators_without_places operators ≡ operators_without_places others → without_places t ≡ without_places u →
    without_places (prefixed_of operators t p) ≡ without_places (prefixed_of others u q)
prefixed_same [] [] t u p q e f = f
prefixed_same [] (o ∷ others) t u p q e f = absurd cc
prefixed_same (o ∷ operators) [] t u p q e f = absurd cc
prefixed_same (o ∷ operators) (o' ∷ others) t u p q e f = cc

apply_same : (t u : Tree) (more others : Trees) (p q : Place) → without_places t ≡ without_places u → trees_without_places more ≡ trees_without_places others →
    without_places (apply_of t more p) ≡ without_places (apply_of u others q)
apply_same t u Trees.no_trees Trees.no_trees p q e f = e
apply_same t u Trees.no_trees (Trees.and_tree v others) p q e f = absurd cc
apply_same t u (Trees.and_tree v more) Trees.no_trees p q e f = absurd cc
apply_same t u (Trees.and_tree v more) (Trees.and_tree w others) p q e f = cc

select_same : (fields : List ℕ) (t u : Tree) (p q : Place) → without_places t ≡ without_places u → without_places (select_of t fields p) ≡ without_places (select_of u fields q)
select_same [] t u p q e = e
select_same (n ∷ fields) t u p q e = cc

fields_moved : (g : ℕ → Place) (z : List Token) {fields : List ℕ} {ts r : List Token} → Fields fields ts r → Fields fields (placed g z ts) (placed g z r)
fields_moved g z Fields.no_fields = Fields.no_fields
fields_moved g z (Fields.and_field x) = Fields.and_field (fields_moved g z x)

dots_moved : (g : ℕ → Place) (z : List Token) {fields : List ℕ} {ts r : List Token} → Dots fields ts r → Dots fields (placed g z ts) (placed g z r)
dots_moved g z Dots.no_dots = Dots.no_dots
dots_moved g z (Dots.and_dot x) = Dots.and_dot (dots_moved g z x)

operator-kept : (o : BinOp) (z m : List Token) → past_end (operator_sign o) z m ≡ m
operator-kept op.Add z m = refl
operator-kept o z m = refl

prefix-kept : (o : UnOp) (z m : List Token) → past_end (prefix_sign o) z m ≡ m
prefix-kept unary.Neg z m = refl
prefix-kept unary.Not z m = refl
prefix-kept unary.Ord z m = refl
prefix-kept unary.Chr z m = refl

prefixes_moved : (g : ℕ → Place) (z : List Token) {operators : List Prefixed} {ts r : List Token} → Prefixes operators ts r → MovedPrefixes operators (placed g z ts) (placed g z r)
prefixes_moved g z Prefixes.no_prefixes = record { operators_too = []; spells = Prefixes.no_prefixes; same = refl }
prefixes_moved g z (Prefixes.and_prefix {op = op} {ts = ts} {r = r} x) =
    let m = prefixes_moved g z x in
    record {
      operators_too = record { op = op; at = g (length ts) } ∷ m.operators_too;
      spells = subst (λ l. Prefixes (record { op = op; at = g (length ts) } ∷ m.operators_too) l (placed g z r)) (sym (prefix-kept op z _)) (Prefixes.and_prefix m.spells);
      same = ap (λ l. record { op = op; at = no_place } ∷ l) m.same;
    }

mutual
  type_moved : (g : ℕ → Place) (z : List Token) {l : TypeLevel} {a : TypeTree} {ts r : List Token} → SpellsType l a ts r → MovedType l a (placed g z ts) (placed g z r)
  type_moved g z (SpellsType.arrow {ts = ts} x y) =
      let a = type_moved g z x in let b = type_moved g z y in
      record { type = TypeTree.arrow a.type b.type (front (placed g z ts)); spells = SpellsType.arrow a.spells b.spells; same = cc (a.same, b.same) }
  type_moved g z (SpellsType.no_arrow x) = let a = type_moved g z x in record { type = a.type; spells = SpellsType.no_arrow a.spells; same = a.same }
  type_moved g z (SpellsType.inter {a = a} {more = more} {ts = ts} x y) =
      let b = type_moved g z x in let c = types_moved g z y in
      record { type = meet_of b.type c.types (front (placed g z ts)); spells = SpellsType.inter b.spells c.spells; same = meet_same b.type a c.types more _ _ b.same c.same }
  type_moved g z (SpellsType.field {names = fields} {a = a} {ts = ts} x y) =
      let b = type_moved g z y in
      record { type = field_of fields b.type (front (placed g z ts)); spells = SpellsType.field (fields_moved g z x) b.spells; same = field_same fields b.type a _ _ b.same }
  type_moved g z SpellsType.ns = record { type = _; spells = SpellsType.ns; same = refl }
  type_moved g z SpellsType.atom = record { type = _; spells = SpellsType.atom; same = refl }
  type_moved g z SpellsType.ident = record { type = _; spells = SpellsType.ident; same = refl }
  type_moved g z (SpellsType.group x) = let a = type_moved g z x in record { type = _; spells = SpellsType.group a.spells; same = cc (a.same) }

  types_moved : (g : ℕ → Place) (z : List Token) {s : Symbol} {l : TypeLevel} {more : TypeTrees} {ts r : List Token} → MoreTypes s l more ts r → MovedTypes s l more (placed g z ts) (placed g z r)
  types_moved g z MoreTypes.no_types = record { types = TypeTrees.no_types; spells = MoreTypes.no_types; same = refl }
  types_moved g z (MoreTypes.and_type x y) =
      let a = type_moved g z x in let b = types_moved g z y in
      record { types = TypeTrees.and_type a.type b.types; spells = MoreTypes.and_type a.spells b.spells; same = cc (a.same, b.same) }

decls_moved : (g : ℕ → Place) (z : List Token) {more : List DeclTree} {ts r : List Token} → MoreDecls more ts r → MovedDecls more (placed g z ts) (placed g z r)
decls_moved g z MoreDecls.no_decls = record { decls = []; spells = MoreDecls.no_decls; same = refl }
decls_moved g z (MoreDecls.and_decl x y) =
    let a = type_moved g z x in let b = decls_moved g z y in
    record { decls = _; spells = MoreDecls.and_decl a.spells b.spells; same = cc (a.same, b.same) }

mutual
  pub tree_moved : (g : ℕ → Place) (z : List Token) {l : Level} {t : Tree} {ts r : List Token} → SpellsBefore l t ts r → MovedTree l t (placed g z ts) (placed g z r)
  tree_moved g z (SpellsBefore.phrase {t = t} {more = more} {ts = ts} x y) =
      let a = tree_moved g z x in let b = trees_moved g z y in
      record { tree = merge_of a.tree b.trees (front (placed g z ts)); spells = SpellsBefore.phrase a.spells b.spells; same = merge_same a.tree t b.trees more _ _ a.same b.same }
  tree_moved g z (SpellsBefore.sequence {t = t} {more = more} {ts = ts} x y) =
      let a = tree_moved g z x in let b = trees_moved g z y in
      record { tree = sequence_of a.tree b.trees (front (placed g z ts)); spells = SpellsBefore.sequence a.spells b.spells; same = sequence_same a.tree t b.trees more _ _ a.same b.same }
  tree_moved g z (SpellsBefore.lam x y w) =
      let a = type_moved g z x in let b = types_moved g z y in let c = tree_moved g z w in
      record { tree = _; spells = SpellsBefore.lam a.spells b.spells c.spells; same = cc (a.same, b.same, c.same) }
  tree_moved g z (SpellsBefore.let_in x y w) =
      let a = tree_moved g z x in let b = defs_moved g z y in let c = tree_moved g z w in
      record { tree = _; spells = SpellsBefore.let_in a.spells b.spells c.spells; same = cc (a.same, b.same, c.same) }
  tree_moved g z (SpellsBefore.letrec d e x y w) =
      let h = type_moved g z d in let i = decls_moved g z e in let a = tree_moved g z x in let b = defs_moved g z y in let c = tree_moved g z w in
      record { tree = _; spells = SpellsBefore.letrec h.spells i.spells a.spells b.spells c.spells; same = cc (h.same, i.same, a.same, b.same, c.same) }
  tree_moved g z (SpellsBefore.let_type d x) =
      let h = type_moved g z d in let a = tree_moved g z x in
      record { tree = _; spells = SpellsBefore.let_type h.spells a.spells; same = cc (h.same, a.same) }
  tree_moved g z (SpellsBefore.new d x y) =
      let a = tree_moved g z x in let b = tree_moved g z y in
      record { tree = _; spells = SpellsBefore.new d a.spells b.spells; same = cc (a.same, b.same) }
  tree_moved g z (SpellsBefore.escape x) = let a = tree_moved g z x in record { tree = _; spells = SpellsBefore.escape a.spells; same = cc (a.same) }
  tree_moved g z (SpellsBefore.accept d x) = let a = tree_moved g z x in record { tree = _; spells = SpellsBefore.accept d a.spells; same = cc (a.same) }
  tree_moved g z (SpellsBefore.cond x y w) =
      let a = tree_moved g z x in let b = tree_moved g z y in let c = tree_moved g z w in
      record { tree = _; spells = SpellsBefore.cond a.spells b.spells c.spells; same = cc (a.same, b.same, c.same) }
  tree_moved g z (SpellsBefore.while_do x y) =
      let a = tree_moved g z x in let b = tree_moved g z y in
      record { tree = _; spells = SpellsBefore.while_do a.spells b.spells; same = cc (a.same, b.same) }
  tree_moved g z (SpellsBefore.loop x) = let a = tree_moved g z x in record { tree = _; spells = SpellsBefore.loop a.spells; same = cc (a.same) }
  tree_moved g z (SpellsBefore.field x) = let a = tree_moved g z x in record { tree = _; spells = SpellsBefore.field a.spells; same = cc (a.same) }
  tree_moved g z (SpellsBefore.assign {ts = ts} x y) =
      let a = tree_moved g z x in let b = tree_moved g z y in
      record { tree = _; spells = SpellsBefore.assign a.spells b.spells; same = cc (a.same, b.same) }
  tree_moved g z (SpellsBefore.no_assign x) = let a = tree_moved g z x in record { tree = a.tree; spells = SpellsBefore.no_assign a.spells; same = a.same }
  tree_moved g z (SpellsBefore.either {t = t} {more = more} {ts = ts} x y) =
      let a = tree_moved g z x in let b = links_moved g z y in
      record { tree = chain_of a.tree b.links (front (placed g z ts)); spells = SpellsBefore.either a.spells b.spells; same = chain_same a.tree t b.links more _ _ a.same b.same }
  tree_moved g z (SpellsBefore.both {t = t} {more = more} {ts = ts} x y) =
      let a = tree_moved g z x in let b = links_moved g z y in
      record { tree = chain_of a.tree b.links (front (placed g z ts)); spells = SpellsBefore.both a.spells b.spells; same = chain_same a.tree t b.links more _ _ a.same b.same }
  tree_moved g z (SpellsBefore.related {op = op} {ts = ts} {m = m} {p = p} o x y) =
      let a = tree_moved g z x in let b = tree_moved g z y in
      record {
        tree = _;
        spells = SpellsBefore.related o (subst (λ l. SpellsBefore Level.sum a.tree (placed g z ts) l) (operator-kept op z (token (operator_sign op) (g (length m)) ∷ placed g z m)) a.spells) b.spells;
        same = cc (a.same, b.same);
      }
  tree_moved g z (SpellsBefore.no_relation x) = let a = tree_moved g z x in record { tree = a.tree; spells = SpellsBefore.no_relation a.spells; same = a.same }
  tree_moved g z (SpellsBefore.sum {t = t} {more = more} {ts = ts} x y) =
      let a = tree_moved g z x in let b = links_moved g z y in
      record { tree = chain_of a.tree b.links (front (placed g z ts)); spells = SpellsBefore.sum a.spells b.spells; same = chain_same a.tree t b.links more _ _ a.same b.same }
  tree_moved g z (SpellsBefore.product {t = t} {more = more} {ts = ts} x y) =
      let a = tree_moved g z x in let b = links_moved g z y in
      record { tree = chain_of a.tree b.links (front (placed g z ts)); spells = SpellsBefore.product a.spells b.spells; same = chain_same a.tree t b.links more _ _ a.same b.same }
  tree_moved g z (SpellsBefore.prefixed {operators = operators} {t = t} {ts = ts} x y) =
      let o = prefixes_moved g z x in let a = tree_moved g z y in
      record { tree = prefixed_of o.operators_too a.tree (front (placed g z ts)); spells = SpellsBefore.prefixed o.spells a.spells; same = prefixed_same o.operators_too operators a.tree t _ _ o.same a.same }
  tree_moved g z (SpellsBefore.apply {t = t} {more = more} {ts = ts} x y) =
      let a = tree_moved g z x in let b = arguments_moved g z y in
      record { tree = apply_of a.tree b.trees (front (placed g z ts)); spells = SpellsBefore.apply a.spells b.spells; same = apply_same a.tree t b.trees more _ _ a.same b.same }
  tree_moved g z (SpellsBefore.select {t = t} {names = fields} {ts = ts} x y) =
      let a = tree_moved g z x in
      record { tree = select_of a.tree fields (front (placed g z ts)); spells = SpellsBefore.select a.spells (dots_moved g z y); same = select_same fields a.tree t _ _ a.same }
  tree_moved g z SpellsBefore.ident = record { tree = _; spells = SpellsBefore.ident; same = refl }
  tree_moved g z SpellsBefore.number = record { tree = _; spells = SpellsBefore.number; same = refl }
  tree_moved g z SpellsBefore.letter = record { tree = _; spells = SpellsBefore.letter; same = refl }
  tree_moved g z SpellsBefore.string = record { tree = _; spells = SpellsBefore.string; same = refl }
  tree_moved g z SpellsBefore.truth = record { tree = _; spells = SpellsBefore.truth; same = refl }
  tree_moved g z SpellsBefore.skip = record { tree = _; spells = SpellsBefore.skip; same = refl }
  tree_moved g z (SpellsBefore.group x) = let a = tree_moved g z x in record { tree = _; spells = SpellsBefore.group a.spells; same = cc (a.same) }
  tree_moved g z (SpellsBefore.seq_of x y) =
      let a = tree_moved g z x in let b = trees_moved g z y in
      record { tree = _; spells = SpellsBefore.seq_of a.spells b.spells; same = cc (a.same, b.same) }

  trees_moved : (g : ℕ → Place) (z : List Token) {s : Symbol} {l : Level} {more : Trees} {ts r : List Token} → MoreTrees s l more ts r → MovedTrees s l more (placed g z ts) (placed g z r)
  trees_moved g z MoreTrees.no_trees = record { trees = Trees.no_trees; spells = MoreTrees.no_trees; same = refl }
  trees_moved g z (MoreTrees.and_tree x y) =
      let a = tree_moved g z x in let b = trees_moved g z y in
      record { trees = Trees.and_tree a.tree b.trees; spells = MoreTrees.and_tree a.spells b.spells; same = cc (a.same, b.same) }

  defs_moved : (g : ℕ → Place) (z : List Token) {more : Defs} {ts r : List Token} → MoreDefs more ts r → MovedDefs more (placed g z ts) (placed g z r)
  defs_moved g z MoreDefs.no_defs = record { defs = Defs.no_defs; spells = MoreDefs.no_defs; same = refl }
  defs_moved g z (MoreDefs.and_def x y) =
      let a = tree_moved g z x in let b = defs_moved g z y in
      record { defs = _; spells = MoreDefs.and_def a.spells b.spells; same = cc (a.same, b.same) }

  links_moved : (g : ℕ → Place) (z : List Token) {c l : Level} {more : Links} {ts r : List Token} → MoreLinks c l more ts r → MovedLinks c l more (placed g z ts) (placed g z r)
  links_moved g z MoreLinks.no_links = record { links = Links.no_links; spells = MoreLinks.no_links; same = refl }
  links_moved g z (MoreLinks.and_link {c = c} {l = l} {op = op} {t = t} {ts = ts} {r = r} o x y) =
      let a = tree_moved g z x in let b = links_moved g z y in
      record {
        links = Links.and_link op (g (length ts)) a.tree b.links;
        spells = subst (λ k. MoreLinks c l (Links.and_link op (g (length ts)) a.tree b.links) k (placed g z r)) (sym (operator-kept op z (token (operator_sign op) (g (length ts)) ∷ placed g z ts)))
            (MoreLinks.and_link o a.spells b.spells);
        same = cc (a.same, b.same);
      }

  arguments_moved : (g : ℕ → Place) (z : List Token) {more : Trees} {ts r : List Token} → MoreArguments more ts r → MovedArguments more (placed g z ts) (placed g z r)
  arguments_moved g z MoreArguments.no_arguments = record { trees = Trees.no_trees; spells = MoreArguments.no_arguments; same = refl }
  arguments_moved g z (MoreArguments.and_argument x y) =
      let a = tree_moved g z x in let b = arguments_moved g z y in
      record { trees = Trees.and_tree a.tree b.trees; spells = MoreArguments.and_argument a.spells b.spells; same = cc (a.same, b.same) }

-- ---- tokens of the same kinds

-- the places of given tokens, by the number of those behind each, with so many more behind all
abbrev pub places_of : ℕ → List Token → ℕ → Place
places_of more [] n = no_place
places_of more (t ∷ ts) n = if n == length ts + more then t.place else places_of more ts n

stays : (k : TokenKind) (z m : List Token) → k ≢ kind.End → past_end k z m ≡ m
stays kind.End z m e = absurd (e refl)
stays (kind.Ident n) z m e = refl
stays (kind.Number n) z m e = refl
stays (kind.Letter n) z m e = refl
stays (kind.Str n) z m e = refl
stays (kind.Word n) z m e = refl
stays (kind.Sym n) z m e = refl

kinds_length : (ts us : List Token) → kinds ts ≡ kinds us → length ts ≡ length us
kinds_length [] [] e = refl
kinds_length [] (u ∷ us) e = absurd cc
kinds_length (t ∷ ts) [] e = absurd cc
kinds_length (t ∷ ts) (u ∷ us) e = let f : kinds ts ≡ kinds us = cc in ap suc (kinds_length ts us f)

not_last : (n m : ℕ) → n < m → (n == m) ≡ false
not_last n m h = go (n == m) refl
  where
    go : (b : Bool) → (n == m) ≡ b → b ≡ false
    go true e = absurd (let f = eqb-true n m e in omega (arith, f))
    go false e = refl

placed_same : (g h : ℕ → Place) (z r ts : List Token) → HaveNoEnd ts → placed g z r ≡ placed h z r → ((n : ℕ) → n < length ts + length r → g n ≡ h n) →
    placed g z (ts ++ r) ≡ placed h z (ts ++ r)
placed_same g h z r [] inside same e = same
placed_same g h z r (t ∷ ts) inside same e =
    let l = length-append ts r in
    let n = length (ts ++ r) in
    stays t.kind z (token t.kind (g n) ∷ placed g z (ts ++ r)) inside.0
    ∙ ap (λ p. token t.kind p ∷ placed g z (ts ++ r)) (e n (omega (arith, l)))
    ∙ ap (λ m. token t.kind (h n) ∷ m) (placed_same g h z r ts inside.1 same (λ i j. e i (omega (arith, j))))
    ∙ sym (stays t.kind z (token t.kind (h n) ∷ placed h z (ts ++ r)) inside.0)

-- tokens of the same kinds are the others placed, where what is behind these becomes the rest wherever it stands
pub placed_as : (z r ts us : List Token) → HaveNoEnd ts → kinds ts ≡ kinds us → ((g : ℕ → Place) → placed g z r ≡ z) → placed (places_of (length r) us) z (ts ++ r) ≡ us ++ z
placed_as z r [] [] inside e same = same (places_of (length r) [])
placed_as z r [] (u ∷ us) inside e same = absurd cc
placed_as z r (t ∷ ts) [] inside e same = absurd cc
placed_as z r (t ∷ ts) (u ∷ us) inside e same =
    let f : kinds ts ≡ kinds us = cc in
    let k : t.kind ≡ u.kind = cc in
    let l = kinds_length ts us f in
    let a = length-append ts r in
    let n = length (ts ++ r) in
    let at = places_of (length r) (u ∷ us) in
    let others = places_of (length r) us in
    let i : n ≡ length us + length r = omega (arith, l, a) in
    let first : at n ≡ u.place = ap (λ b. if b then u.place else others n) (eq-eqb n (length us + length r) i) in
    let later = placed_same at others z r ts inside.1 (same at ∙ sym (same others))
    (λ n j. ap (λ b. if b then u.place else others n) (not_last n (length us + length r) (omega (arith, l, j)))) in
    stays t.kind z (token t.kind (at n) ∷ placed at z (ts ++ r)) inside.0
    ∙ ap (λ p. token t.kind p ∷ placed at z (ts ++ r)) first
    ∙ ap (λ m. token t.kind u.place ∷ m) (later ∙ placed_as z r ts us inside.1 f same)
    ∙ ap (λ q. token q u.place ∷ us ++ z) k

-- with nothing behind them
pub placed_whole : (z ts us : List Token) → HaveNoEnd ts → kinds ts ≡ kinds us → placed (places_of 0 us) z ts ≡ us ++ z
placed_whole z ts us inside e = subst (λ l. placed (places_of 0 us) z l ≡ us ++ z) (append-nil ts) (placed_as z [] ts us inside e (λ g. refl))

pub phrases_spelled_again : PhrasesAreSpelledAgain
phrases_spelled_again tree at ts us rest inside e x =
    let end : List Token = token kind.End at ∷ [] in
    let moved = tree_moved (places_of 1 us) rest x in
    record {
      other = moved.tree;
      spelled = subst (λ l. SpellsBefore Level.phrase moved.tree l rest) (placed_as rest end ts us inside e (λ g. refl)) moved.spells;
      same = moved.same;
    }
