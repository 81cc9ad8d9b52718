-- What the programs that are judged for a source are: `\ name : type . skip` is that abstraction, and a unit's program is its imports' abstractions around what stands
-- behind the `==`.
use Rattle.std.proofs.Common.{◌≡◌, ℕ, List, [], ◌∷◌, ◌++◌, true, false, refl, sym, ap, ◌∙◌, subst}
use Rattle.std.specs.Prelude.{◌||◌}
use Rattle.std.proofs.lemmas.List.{append_assoc, append-nil}
use Rattle.fy_base.specs.declared.data.Place.{Place}
use Rattle.fy_lexer.specs.declared.token.Token.{Token}
use Rattle.fy_lexer.specs.declared.token.TokenKind.{TokenKind}
use Rattle.fy_lexer.specs.declared.token.TokenKind.TheVariants as kind
use Rattle.fy_lexer.specs.declared.token.Keyword.TheVariants as word
use Rattle.fy_lexer.specs.declared.token.Symbol.{Symbol}
use Rattle.fy_lexer.specs.declared.token.Symbol.TheVariants as symbol
use Rattle.fy_syntax.specs.Trees.{TypeTree, TypeTrees}
use Rattle.fy_syntax.specs.Trees as written
use Rattle.fy_syntax.specs.Reader.{kind_at, behind, is_symbol_kind}
use Rattle.fy_syntax.specs.Signs.{token, word_at, symbol_at, ident_at, Level, TypeLevel}
use Rattle.fy_syntax.specs.Spells.{SpellsType, MoreTypes, Prefixes, Dots, SpellsBefore, MoreTrees, MoreLinks, MoreArguments, IsProgram}
use Rattle.fy_syntax.proofs.Fronts.{opens, either_opens}
use Rattle.fy_link.specs.Header.{PlainPiece, ends_type, abstraction_over}
use Rattle.fy_link.specs.Sources.{Named, Names}
use Rattle.fy_link.proofs.TypeParts.{IsClean, type-part}

-- ---- the tokens of a type in front of a `.`

-- a clean token has another kind
not-clean : (t : Token) (s : Symbol) → t.kind ≡ kind.Sym s → (is_symbol_kind symbol.Dot (kind.Sym s) || is_symbol_kind symbol.Bar (kind.Sym s)) ≡ true → ends_type t ≡ false → ⊥
not-clean t s e f h =
    let k : ends_type t ≡ true = ap (λ (k : TokenKind). is_symbol_kind symbol.Dot k || is_symbol_kind symbol.Bar k) e ∙ f in
    absurd (cc)

-- clean tokens stand before the first `.`
clean-cut : (xs own m z : List Token) (d : Place) → IsClean own → own ++ m ≡ xs ++ symbol_at symbol.Dot d ∷ z →
    (s : List Token) × (xs ≡ own ++ s) × (m ≡ s ++ symbol_at symbol.Dot d ∷ z)
clean-cut xs [] m z d h e = (xs, refl, e)
clean-cut [] (t ∷ own) m z d h e = absurd (not-clean t symbol.Dot (ap kind_at e) refl h.0)
clean-cut (x ∷ xs) (t ∷ own) m z d h e =
    let first : t ≡ x = cc in
    let later : own ++ m ≡ xs ++ symbol_at symbol.Dot d ∷ z = cc in
    let found = clean-cut xs own m z d h.1 later in
    (found.0, ap (λ (y : Token). y ∷ xs) (sym first) ∙ ap (λ (ys : List Token). t ∷ ys) found.1, found.2)

clean-behind : (xs own s : List Token) → xs ≡ own ++ s → IsClean xs → IsClean s
clean-behind xs [] s e h = subst IsClean e h
clean-behind [] (t ∷ own) s e h = absurd (cc)
clean-behind (x ∷ xs) (t ∷ own) s e h = let later : xs ≡ own ++ s = cc in clean-behind xs own s later h.1

-- the types end at the first `.`, where no `|` stands before it
ends-there : (s z : List Token) (d : Place) {l : TypeLevel} {more : TypeTrees} {m r : List Token} → IsClean s → MoreTypes symbol.Bar l more m r → kind_at r ≡ kind.Sym symbol.Dot →
    m ≡ s ++ symbol_at symbol.Dot d ∷ z → s ≡ []
ends-there [] z d h x e f = refl
ends-there (t ∷ s) z d h MoreTypes.no_types e f = absurd (not-clean t symbol.Dot (sym (ap kind_at f) ∙ e) refl h.0)
ends-there (t ∷ s) z d h (MoreTypes.and_type x y) e f = absurd (not-clean t symbol.Bar (sym (ap kind_at f)) refl h.0)

-- ---- a program that begins with `\`

-- `\ name : type | .. .`
record LamOf (ts : List Token) : Type 0 where
  pub name : ℕ
  pub a : TypeTree
  pub more : TypeTrees
  pub rest : List Token
  pub m : List Token
  pub r : List Token
  pub at : Place
  pub name_at : Place
  pub colon_at : Place
  pub is : ts ≡ symbol_at symbol.Backslash at ∷ ident_at name name_at ∷ symbol_at symbol.Colon colon_at ∷ rest
  pub type : SpellsType TypeLevel.type a rest m
  pub types : MoreTypes symbol.Bar TypeLevel.type more m r
  pub dot : kind_at r ≡ kind.Sym symbol.Dot

no-opening : (ts : List Token) → opens (kind_at ts) ≡ true → kind_at ts ≡ kind.Sym symbol.Backslash → ⊥
no-opening ts h e = let k : opens (kind_at ts) ≡ false = ap opens e in absurd (cc)

lam-of : {t : written.Tree} {ts r : List Token} → SpellsBefore Level.term t ts r → kind_at ts ≡ kind.Sym symbol.Backslash → LamOf ts
lam-of (SpellsBefore.lam {n = n} {a = a} {more = more} {ts = ts} {m = m} {k = k} {p = p} {q = q} {c = c} {d = d} x y z) e = record {
  name = n;
  a = a;
  more = more;
  rest = ts;
  m = m;
  r = symbol_at symbol.Dot d ∷ k;
  at = p;
  name_at = q;
  colon_at = c;
  is = refl;
  type = x;
  types = y;
  dot = refl;
}
lam-of (SpellsBefore.let_in x y z) e = absurd (cc)
lam-of (SpellsBefore.letrec a b x y z) e = absurd (cc)
lam-of (SpellsBefore.let_type a x) e = absurd (cc)
lam-of (SpellsBefore.new d x y) e = absurd (cc)
lam-of (SpellsBefore.escape x) e = absurd (cc)
lam-of (SpellsBefore.accept d x) e = absurd (cc)
lam-of (SpellsBefore.cond x y z) e = absurd (cc)
lam-of (SpellsBefore.while_do x y) e = absurd (cc)
lam-of (SpellsBefore.loop x) e = absurd (cc)
lam-of (SpellsBefore.field x) e = absurd (cc)
lam-of (SpellsBefore.assign {ts = ts} x y) e = absurd (no-opening ts (either_opens x) e)
lam-of (SpellsBefore.no_assign {ts = ts} x) e = absurd (no-opening ts (either_opens x) e)

lam-in : {t : written.Tree} {ts r : List Token} → SpellsBefore Level.phrase t ts r → kind_at ts ≡ kind.Sym symbol.Backslash → LamOf ts
lam-in (SpellsBefore.phrase (SpellsBefore.sequence x y) z) e = lam-of x e

-- ---- the type of a piece

-- the piece's tokens spell this type before any rest
pub record TypeOf (x : PlainPiece) : Type 0 where
  pub a : TypeTree
  pub spells : (z : List Token) → SpellsType TypeLevel.type a (x.type ++ z) z

type-from : (x : PlainPiece) (at : Place) (z : List Token) → IsClean x.type → LamOf (abstraction_over at x ++ z) → TypeOf x
type-from x at z clean f =
    let part = type-part f.type in
    let rest : part.own ++ f.m ≡ x.type ++ symbol_at symbol.Dot at ∷ z =
    sym part.is ∙ (sym (ap (λ (ts : List Token). behind (behind (behind ts))) f.is) ∙ append_assoc x.type (symbol_at symbol.Dot at ∷ []) z) in
    let found = clean-cut x.type part.own f.m z at part.clean rest in
    let none : found.0 ≡ [] = ends-there found.0 z at (clean-behind x.type part.own found.0 found.1 clean) f.types f.dot found.2 in
    let whole : x.type ≡ part.own = found.1 ∙ (ap (λ (s : List Token). part.own ++ s) none ∙ append-nil part.own) in
    record { a = f.a; spells = λ y. subst (λ ts. SpellsType TypeLevel.type f.a (ts ++ y) y) (sym whole) (part.again y) }

pub type-of : (at : Place) (x : PlainPiece) (named : Named) → IsClean x.type → Names at x named → TypeOf x
type-of at x named clean h = type-from x at (word_at word.Skip at ∷ token kind.End at ∷ []) clean (lam-in h.means.program.spelled.1 refl)

-- ---- terms and programs

pub primary-term : {t : written.Tree} {ts r : List Token} → SpellsBefore Level.primary t ts r → SpellsBefore Level.term t ts r
primary-term h =
    SpellsBefore.no_assign (SpellsBefore.either (SpellsBefore.both (SpellsBefore.no_relation (SpellsBefore.sum (SpellsBefore.product (SpellsBefore.prefixed Prefixes.no_prefixes
    (SpellsBefore.apply (SpellsBefore.select h Dots.no_dots) MoreArguments.no_arguments)) MoreLinks.no_links) MoreLinks.no_links)) MoreLinks.no_links) MoreLinks.no_links)

pub term-program : {t : written.Tree} {ts : List Token} (at : Place) → SpellsBefore Level.term t ts (token kind.End at ∷ []) → IsProgram t ts
term-program at h = (at, SpellsBefore.phrase (SpellsBefore.sequence h MoreTrees.no_trees) MoreTrees.no_trees)

-- an abstraction of one type
abbrev pub lam_of : Place → ℕ → TypeTree → written.Tree → written.Tree
lam_of at name a t = written.Tree.lam name (TypeTrees.and_type a TypeTrees.no_types) t at

pub lam-term : (x : PlainPiece) (at : Place) (f : TypeOf x) {t : written.Tree} {ts r : List Token} → SpellsBefore Level.term t ts r → SpellsBefore Level.term (lam_of at x.name f.a t) (abstraction_over at x ++ ts) r
lam-term x at f {t} {ts} {r} h =
    let opening = symbol_at symbol.Backslash at ∷ ident_at x.name x.at ∷ symbol_at symbol.Colon x.colon_at ∷ [] in
    subst (λ us. SpellsBefore Level.term (lam_of at x.name f.a t) (opening ++ us) r) (sym (append_assoc x.type (symbol_at symbol.Dot at ∷ []) ts))
    (SpellsBefore.lam (f.spells (symbol_at symbol.Dot at ∷ ts)) MoreTypes.no_types h)

-- the program for a piece is the abstraction over `skip`
pub type-tree : (at : Place) (x : PlainPiece) (named : Named) (f : TypeOf x) (h : Names at x named) → lam_of at x.name f.a (written.Tree.skip at) ≡ h.means.tree
type-tree at x named f h = h.means.program.only _ (term-program at (lam-term x at f (primary-term SpellsBefore.skip)))
