-- The text of a tree is the texts of the tokens that spell it, each with one blank behind it.
use Rattle.std.proofs.Common.{◌≡◌, ℕ, Bool, true, false, List, [], ◌∷◌, ◌++◌, codes, refl, sym, ap, ◌∙◌, append_assoc, append-nil}
use Rattle.fy_base.specs.Outside.{Bytes}
use Rattle.fy_base.specs.declared.data.BinOp.{BinOp}
use Rattle.fy_base.specs.declared.data.BinOp.TheVariants as op
use Rattle.fy_base.specs.declared.data.UnOp.{UnOp}
use Rattle.fy_base.specs.declared.data.UnOp.TheVariants as unary
use Rattle.fy_base.specs.declared.data.Place.{Place}
use Rattle.fy_types.specs.declared.types.Atom.{Atom}
use Rattle.fy_types.specs.declared.types.Atom.TheVariants as atom
use Rattle.fy_lexer.specs.declared.token.Token.{Token}
use Rattle.fy_lexer.specs.declared.token.TokenKind.TheVariants as kind
use Rattle.fy_lexer.specs.declared.token.Symbol.{Symbol}
use Rattle.fy_syntax.specs.declared.surface.Prefixed.{Prefixed}
use Rattle.fy_syntax.specs.Trees.{TypeTree, TypeTrees, DeclTree, Tree, Trees, Defs, Links}
use Rattle.fy_syntax.specs.Signs.{Level, TypeLevel, operator_sign, prefix_sign, atom_word, truth_word}
use Rattle.fy_syntax.specs.Spells.{Fields, Dots, Prefixes, SpellsType, MoreTypes, MoreDecls, SpellsBefore, MoreTrees, MoreDefs, MoreLinks, MoreArguments, meet_of, field_of, merge_of, sequence_of, chain_of, prefixed_of, apply_of, select_of}
use Rattle.fy_syntax.specs.Print.{operator_text, prefix_text, atom_text, truth_text, fields_text, dots_text, prefixes_text, type_text, types_text, decls_text, tree_text, trees_text, defs_text, links_text}
use Rattle.fy_syntax.proofs.KindTexts.{kind_text, symbol_text}

-- the texts of tokens, each with a blank behind it
abbrev pub tokens_text : List Bytes → List Token → Bytes
tokens_text names [] = []
tokens_text names (t ∷ ts) = kind_text names t.kind ++ (32 ∷ tokens_text names ts)

operator_written : (names : List Bytes) (o : BinOp) (rest : Bytes) → kind_text names (operator_sign o) ++ (32 ∷ rest) ≡ operator_text o ++ rest
operator_written names op.Add rest = refl
operator_written names o rest = refl

prefix_written : (names : List Bytes) (o : UnOp) (rest : Bytes) → kind_text names (prefix_sign o) ++ (32 ∷ rest) ≡ prefix_text o ++ rest
prefix_written names unary.Neg rest = refl
prefix_written names unary.Not rest = refl
prefix_written names unary.Ord rest = refl
prefix_written names unary.Chr rest = refl

atom_written : (names : List Bytes) (a : Atom) (rest : Bytes) → kind_text names (kind.Word (atom_word a)) ++ (32 ∷ rest) ≡ atom_text a ++ rest
atom_written names atom.Int rest = refl
atom_written names a rest = refl

truth_written : (names : List Bytes) (b : Bool) (rest : Bytes) → kind_text names (kind.Word (truth_word b)) ++ (32 ∷ rest) ≡ truth_text b ++ rest
truth_written names true rest = refl
truth_written names false rest = refl

fields_written : (names : List Bytes) {fields : List ℕ} {ts r : List Token} → Fields fields ts r → tokens_text names ts ≡ fields_text names fields ++ tokens_text names r
fields_written names Fields.no_fields = refl
fields_written names (Fields.and_field x) = rw (fields_written names x) (simp append_assoc)

dots_written : (names : List Bytes) {fields : List ℕ} {ts r : List Token} → Dots fields ts r → tokens_text names ts ≡ dots_text names fields ++ tokens_text names r
dots_written names Dots.no_dots = refl
dots_written names (Dots.and_dot x) = rw (dots_written names x) (simp append_assoc)

prefixes_written : (names : List Bytes) {operators : List Prefixed} {ts r : List Token} → Prefixes operators ts r → tokens_text names ts ≡ prefixes_text operators ++ tokens_text names r
prefixes_written names Prefixes.no_prefixes = refl
prefixes_written names (Prefixes.and_prefix {op = op} {operators = operators} {ts = ts} {r = r} x) =
    operator_first ∙ (ap (λ l. prefix_text op ++ l) (prefixes_written names x) ∙ sym (append_assoc (prefix_text op) (prefixes_text operators) (tokens_text names r)))
  where
    operator_first : kind_text names (prefix_sign op) ++ (32 ∷ tokens_text names ts) ≡ prefix_text op ++ tokens_text names ts
    operator_first = prefix_written names op (tokens_text names ts)

meet_text : (names : List Bytes) (a : TypeTree) (more : TypeTrees) (p : Place) → type_text names (meet_of a more p) ≡ type_text names a ++ types_text names (codes "& ") (codes "& ") more
meet_text names a TypeTrees.no_types p = sym (append-nil (type_text names a))
meet_text names a (TypeTrees.and_type b more) p = refl

field_text : (names : List Bytes) (fields : List ℕ) (a : TypeTree) (p : Place) → type_text names (field_of fields a p) ≡ fields_text names fields ++ type_text names a
field_text names [] a p = refl
field_text names (n ∷ fields) a p = refl

mutual
  type_written : (names : List Bytes) {l : TypeLevel} {a : TypeTree} {ts r : List Token} → SpellsType l a ts r → tokens_text names ts ≡ type_text names a ++ tokens_text names r
  type_written names (SpellsType.arrow x y) = rw (type_written names x) (rw (type_written names y) (simp append_assoc))
  type_written names (SpellsType.no_arrow x) = type_written names x
  type_written names (SpellsType.inter {a = a} {more = more} x y) = rw (type_written names x) (rw (types_written names y) (rw (meet_text names a more _) (simp append_assoc)))
  type_written names (SpellsType.field {names = fields} {a = a} x y) = rw (fields_written names x) (rw (type_written names y) (rw (field_text names fields a _) (simp append_assoc)))
  type_written names SpellsType.ns = refl
  type_written names (SpellsType.atom {a = a} {r = r}) = atom_written names a (tokens_text names r)
  type_written names SpellsType.ident = simp append_assoc
  type_written names (SpellsType.group x) = rw (type_written names x) (simp append_assoc)

  types_written : (names : List Bytes) {s : Symbol} {l : TypeLevel} {more : TypeTrees} {ts r : List Token} → MoreTypes s l more ts r →
      tokens_text names ts ≡ types_text names (symbol_text s ++ (32 ∷ [])) (symbol_text s ++ (32 ∷ [])) more ++ tokens_text names r
  types_written names MoreTypes.no_types = refl
  types_written names (MoreTypes.and_type x y) = rw (type_written names x) (rw (types_written names y) (simp append_assoc))

decls_written : (names : List Bytes) {more : List DeclTree} {ts r : List Token} → MoreDecls more ts r → tokens_text names ts ≡ decls_text names (codes ", ") more ++ tokens_text names r
decls_written names MoreDecls.no_decls = refl
decls_written names (MoreDecls.and_decl x y) = rw (type_written names x) (rw (decls_written names y) (simp append_assoc))

merge_text : (names : List Bytes) (t : Tree) (more : Trees) (p : Place) → tree_text names (merge_of t more p) ≡ tree_text names t ++ trees_text names (codes ", ") (codes ", ") more
merge_text names t Trees.no_trees p = sym (append-nil (tree_text names t))
merge_text names t (Trees.and_tree u more) p = refl

sequence_text : (names : List Bytes) (t : Tree) (more : Trees) (p : Place) → tree_text names (sequence_of t more p) ≡ tree_text names t ++ trees_text names (codes "; ") (codes "; ") more
sequence_text names t Trees.no_trees p = sym (append-nil (tree_text names t))
sequence_text names t (Trees.and_tree u more) p = refl

chain_text : (names : List Bytes) (t : Tree) (more : Links) (p : Place) → tree_text names (chain_of t more p) ≡ tree_text names t ++ links_text names more
chain_text names t Links.no_links p = sym (append-nil (tree_text names t))
chain_text names t (Links.and_link op q u more) p = refl

prefixed_text : (names : List Bytes) (operators : List Prefixed) (t : Tree) (p : Place) → tree_text names (prefixed_of operators t p) ≡ prefixes_text operators ++ tree_text names t
prefixed_text names [] t p = refl
prefixed_text names (o ∷ operators) t p = refl

apply_text : (names : List Bytes) (t : Tree) (more : Trees) (p : Place) → tree_text names (apply_of t more p) ≡ tree_text names t ++ trees_text names [] [] more
apply_text names t Trees.no_trees p = sym (append-nil (tree_text names t))
apply_text names t (Trees.and_tree u more) p = refl

select_text : (names : List Bytes) (t : Tree) (fields : List ℕ) (p : Place) → tree_text names (select_of t fields p) ≡ tree_text names t ++ dots_text names fields
select_text names t [] p = sym (append-nil (tree_text names t))
select_text names t (n ∷ fields) p = refl

mutual
  pub tree_written : (names : List Bytes) {l : Level} {t : Tree} {ts r : List Token} → SpellsBefore l t ts r → tokens_text names ts ≡ tree_text names t ++ tokens_text names r
  tree_written names (SpellsBefore.phrase {t = t} {more = more} x y) = rw (tree_written names x) (rw (trees_written names y) (rw (merge_text names t more _) (simp append_assoc)))
  tree_written names (SpellsBefore.sequence {t = t} {more = more} x y) = rw (tree_written names x) (rw (trees_written names y) (rw (sequence_text names t more _) (simp append_assoc)))
  tree_written names (SpellsBefore.lam x y z) = rw (type_written names x) (rw (types_written names y) (rw (tree_written names z) (simp append_assoc)))
  tree_written names (SpellsBefore.let_in x y z) = rw (tree_written names x) (rw (defs_written names y) (rw (tree_written names z) (simp append_assoc)))
  tree_written names (SpellsBefore.letrec a b x y z) =
      rw (type_written names a) (rw (decls_written names b) (rw (tree_written names x) (rw (defs_written names y) (rw (tree_written names z) (simp append_assoc)))))
  tree_written names (SpellsBefore.let_type a x) = rw (type_written names a) (rw (tree_written names x) (simp append_assoc))
  tree_written names (SpellsBefore.new {a = a} {ts = ts} d x y) =
      rw (atom_written names a (58 ∷ 61 ∷ 32 ∷ tokens_text names ts)) (rw (tree_written names x) (rw (tree_written names y) (simp append_assoc)))
  tree_written names (SpellsBefore.escape x) = rw (tree_written names x) (simp append_assoc)
  tree_written names (SpellsBefore.accept {a = a} {ts = ts} d x) =
      rw (atom_written names a (105 ∷ 110 ∷ 32 ∷ tokens_text names ts)) (rw (tree_written names x) (simp append_assoc))
  tree_written names (SpellsBefore.cond x y z) = rw (tree_written names x) (rw (tree_written names y) (rw (tree_written names z) (simp append_assoc)))
  tree_written names (SpellsBefore.while_do x y) = rw (tree_written names x) (rw (tree_written names y) (simp append_assoc))
  tree_written names (SpellsBefore.loop x) = rw (tree_written names x) (simp append_assoc)
  tree_written names (SpellsBefore.field x) = rw (tree_written names x) (simp append_assoc)
  tree_written names (SpellsBefore.assign x y) = rw (tree_written names x) (rw (tree_written names y) (simp append_assoc))
  tree_written names (SpellsBefore.no_assign x) = tree_written names x
  tree_written names (SpellsBefore.either {t = t} {more = more} x y) = rw (tree_written names x) (rw (links_written names y) (rw (chain_text names t more _) (simp append_assoc)))
  tree_written names (SpellsBefore.both {t = t} {more = more} x y) = rw (tree_written names x) (rw (links_written names y) (rw (chain_text names t more _) (simp append_assoc)))
  tree_written names (SpellsBefore.related {op = op} {m = m} o x y) =
      rw (tree_written names x) (rw (operator_written names op (tokens_text names m)) (rw (tree_written names y) (simp (append_assoc, append-nil))))
  tree_written names (SpellsBefore.no_relation x) = tree_written names x
  tree_written names (SpellsBefore.sum {t = t} {more = more} x y) = rw (tree_written names x) (rw (links_written names y) (rw (chain_text names t more _) (simp append_assoc)))
  tree_written names (SpellsBefore.product {t = t} {more = more} x y) = rw (tree_written names x) (rw (links_written names y) (rw (chain_text names t more _) (simp append_assoc)))
  tree_written names (SpellsBefore.prefixed {operators = operators} {t = t} x y) = rw (prefixes_written names x) (rw (tree_written names y) (rw (prefixed_text names operators t _) (simp append_assoc)))
  tree_written names (SpellsBefore.apply {t = t} {more = more} x y) = rw (tree_written names x) (rw (arguments_written names y) (rw (apply_text names t more _) (simp append_assoc)))
  tree_written names (SpellsBefore.select {t = t} {names = fields} x y) = rw (tree_written names x) (rw (dots_written names y) (rw (select_text names t fields _) (simp append_assoc)))
  tree_written names SpellsBefore.ident = simp append_assoc
  tree_written names SpellsBefore.number = simp append_assoc
  tree_written names SpellsBefore.letter = simp append_assoc
  tree_written names SpellsBefore.string = simp append_assoc
  tree_written names (SpellsBefore.truth {b = b} {r = r}) = truth_written names b (tokens_text names r)
  tree_written names SpellsBefore.skip = refl
  tree_written names (SpellsBefore.group x) = rw (tree_written names x) (simp append_assoc)
  tree_written names (SpellsBefore.seq_of x y) = rw (tree_written names x) (rw (trees_written names y) (simp append_assoc))

  trees_written : (names : List Bytes) {s : Symbol} {l : Level} {more : Trees} {ts r : List Token} → MoreTrees s l more ts r →
      tokens_text names ts ≡ trees_text names (symbol_text s ++ (32 ∷ [])) (symbol_text s ++ (32 ∷ [])) more ++ tokens_text names r
  trees_written names MoreTrees.no_trees = refl
  trees_written names (MoreTrees.and_tree x y) = rw (tree_written names x) (rw (trees_written names y) (simp append_assoc))

  defs_written : (names : List Bytes) {more : Defs} {ts r : List Token} → MoreDefs more ts r → tokens_text names ts ≡ defs_text names (codes ", ") more ++ tokens_text names r
  defs_written names MoreDefs.no_defs = refl
  defs_written names (MoreDefs.and_def x y) = rw (tree_written names x) (rw (defs_written names y) (simp append_assoc))

  links_written : (names : List Bytes) {c l : Level} {more : Links} {ts r : List Token} → MoreLinks c l more ts r → tokens_text names ts ≡ links_text names more ++ tokens_text names r
  links_written names MoreLinks.no_links = refl
  links_written names (MoreLinks.and_link {op = op} {ts = ts} o x y) =
      rw (operator_written names op (tokens_text names ts)) (rw (tree_written names x) (rw (links_written names y) (simp append_assoc)))

  arguments_written : (names : List Bytes) {more : Trees} {ts r : List Token} → MoreArguments more ts r → tokens_text names ts ≡ trees_text names [] [] more ++ tokens_text names r
  arguments_written names MoreArguments.no_arguments = refl
  arguments_written names (MoreArguments.and_argument x y) = rw (tree_written names x) (rw (arguments_written names y) (simp append_assoc))
