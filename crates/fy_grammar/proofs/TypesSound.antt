-- What is read as a type is spelled so, within the nesting.
use Rattle.std.proofs.Common.{◌≡◌, ◌≤◌, ℕ, zero, suc, Bool, true, false, List, [], ◌∷◌, length, refl, sym, ap, subst, ◌∙◌, arith}
use Rattle.std.specs.Prelude.{Option, Some, Ok}
use Rattle.fy_base.specs.declared.data.Place.{Place}
use Rattle.fy_types.specs.declared.types.Atom.{Atom}
use Rattle.fy_types.specs.declared.types.Atom.TheVariants as atom
use Rattle.fy_lexer.specs.declared.token.Token.{Token}
use Rattle.fy_lexer.specs.declared.token.TokenKind.{TokenKind}
use Rattle.fy_lexer.specs.declared.token.TokenKind.TheVariants as kind
use Rattle.fy_lexer.specs.declared.token.Keyword.TheVariants as word
use Rattle.fy_lexer.specs.declared.token.Symbol.{Symbol}
use Rattle.fy_lexer.specs.declared.token.Symbol.TheVariants as symbol
use Rattle.fy_syntax.specs.Trees.{TypeTree, TypeTrees, DeclTree}
use Rattle.fy_syntax.specs.Nesting.{type_below, types_below, decls_nesting}
use Rattle.fy_syntax.specs.Signs.{front, token, symbol_at, word_at, ident_at, atom_word, TypeLevel}
use Rattle.fy_syntax.specs.Spells.{Fields, SpellsType, MoreTypes, MoreDecls, field_of, meet_of}
use Rattle.fy_syntax.specs.Reader.{Read, mapped, behind, begins_with, expect, name_at, is_symbol_kind, fields_at, fields_step, types_at, type_group, type_by_kind, type_primary, type_field, type_inter, type_type, type_inner, read_type, decl_at, decls_at}
use Rattle.fy_syntax.proofs.SignLemmas.{kind_is_symbol}
use Rattle.fy_syntax.proofs.TokenLemmas.{begins_is}
use Rattle.fy_syntax.proofs.TypesComplete.{meet_below, field_below}
use Rattle.fy_grammar.specs.Program.{is_end}
use Rattle.fy_grammar.proofs.Holding.{Holds, holds_bind, holds_mapped, holds_if, holds_nested}
use Rattle.fy_grammar.proofs.SignsSound.{Lasts, Fails, IsBehind, IsNamed, lasts_symbol, expect_sound, name_sound}

-- what was read at a level is spelled before what is left
abbrev pub SpelledType : (List Token → Type 0) → TypeLevel → ℕ → List Token → TypeTree × List Token → Type 0
SpelledType E l d ts x = SpellsType l x.0 ts x.1 × (type_below x.0 ≤ d) × E x.1

pub record TypeSound (E : List Token → Type 0) (l : TypeLevel) (d : ℕ) (item : List Token → Read TypeTree) : Type 0 where
  pub sound : (ts : List Token) → E ts → Holds (SpelledType E l d ts) (Fails E) (item ts)

pub record TypeInnerSound (E : List Token → Type 0) (d : ℕ) (i : Option (List Token → Read TypeTree)) : Type 0 where
  pub sound : (g : List Token → Read TypeTree) → i ≡ Some g → (e : ℕ) × (suc e ≤ d) × TypeSound E TypeLevel.type e g

-- types behind a symbol each
abbrev pub SpelledTypes : (List Token → Type 0) → Symbol → TypeLevel → ℕ → List Token → TypeTrees × List Token → Type 0
SpelledTypes E s l d ts x = MoreTypes s l x.0 ts x.1 × (types_below x.0 ≤ d) × E x.1

pub types_sound : (E : List Token → Type 0) → Lasts E → (s : Symbol) (l : TypeLevel) (d : ℕ) (item : List Token → Read TypeTree) → TypeSound E l d item →
    (g : ℕ) (ts : List Token) → E ts → Holds (SpelledTypes E s l d ts) (Fails E) (types_at g s item ts)
types_sound E a s l d item i zero ts h = (MoreTypes.no_types, omega arith, h)
types_sound E a s l d item i (suc g) ts h =
    holds_if (SpelledTypes E s l d ts) (Fails E) (begins_with s ts) _ (Ok (TypeTrees.no_types, ts))
    (λ e. holds_bind (SpelledType E l d (behind ts)) (Fails E) (SpelledTypes E s l d ts) (item (behind ts)) (λ x. mapped (TypeTrees.and_type x.0) (types_at g s item x.1)) (i.sound (behind ts) (lasts_symbol E a s ts e h))
    (λ x m. holds_mapped (SpelledTypes E s l d x.1) (Fails E) (SpelledTypes E s l d ts) (TypeTrees.and_type x.0) (types_at g s item x.1) (types_sound E a s l d item i g x.1 m.2)
    (λ y n. (subst (λ us. MoreTypes s l (TypeTrees.and_type x.0 y.0) us y.1) (sym (begins_is s ts e)) (MoreTypes.and_type m.0 n.0), omega arith, n.2))))
    (λ e. (MoreTypes.no_types, omega arith, h))

-- names before colons
abbrev AreFields : (List Token → Type 0) → List Token → List ℕ × List Token → Type 0
AreFields E ts x = Fields x.0 ts x.1 × E x.1

fields_step_sound : (E : List Token → Type 0) (p q : Place) (ts : List Token) (more : List ℕ × List Token) (k l : TokenKind) → E (token k p ∷ token l q ∷ ts) →
    (is_symbol_kind symbol.Colon l ≡ true → is_end k ≡ false → AreFields E ts more) → (b : Bool) → is_symbol_kind symbol.Colon l ≡ b →
    AreFields E (token k p ∷ token l q ∷ ts) (fields_step k b more (token k p ∷ token l q ∷ ts))
fields_step_sound E p q ts more (kind.Ident n) l h m true e =
    let s = m e refl in
    (subst (λ (l : TokenKind). Fields (n ∷ more.0) (ident_at n p ∷ token l q ∷ ts) more.1) (sym (kind_is_symbol symbol.Colon l e)) (Fields.and_field s.0), s.1)
fields_step_sound E p q ts more (kind.Ident n) l h m false e = (Fields.no_fields, h)
fields_step_sound E p q ts more _ l h m b e = (Fields.no_fields, h)

pub fields_sound : (E : List Token → Type 0) → Lasts E → (ts : List Token) → E ts → AreFields E ts (fields_at ts)
fields_sound E a [] h = (Fields.no_fields, h)
fields_sound E a (t ∷ []) h = (Fields.no_fields, h)
fields_sound E a (t ∷ u ∷ ts) h =
    fields_step_sound E t.place u.place ts (fields_at ts) t.kind u.kind h
    (λ c e. fields_sound E a ts (lasts_symbol E a symbol.Colon (u ∷ ts) c (a.behind t (u ∷ ts) e h))) (is_symbol_kind symbol.Colon u.kind) refl

type_group_sound : (E : List Token → Type 0) → Lasts E → (d : ℕ) (i : Option (List Token → Read TypeTree)) → TypeInnerSound E d i → (p : Place) (ts : List Token) →
    E (symbol_at symbol.OpenParen p ∷ ts) → (g : List Token → Read TypeTree) → i ≡ Some g →
    Holds (SpelledType E TypeLevel.primary d (symbol_at symbol.OpenParen p ∷ ts)) (Fails E) (type_group g (symbol_at symbol.OpenParen p ∷ ts))
type_group_sound E a d i s p ts h g e =
    let (n, le, inside) = s.sound g e in
    let P : TypeTree × List Token → Type 0 = SpelledType E TypeLevel.primary d (symbol_at symbol.OpenParen p ∷ ts) in
    holds_bind (SpelledType E TypeLevel.type n ts) (Fails E) P (g ts) _ (inside.sound ts (a.behind (symbol_at symbol.OpenParen p) ts refl h))
    (λ x m. holds_bind (IsBehind E (symbol_at symbol.CloseParen (front x.1)) x.1) (Fails E) P (expect symbol.CloseParen x.1) _ (expect_sound E a symbol.CloseParen x.1 m.2)
    (λ r n. (SpellsType.group (subst (λ us. SpellsType TypeLevel.type x.0 ts us) n.0 m.0), omega (arith, m.1), n.1)))

type_primary_sound : (E : List Token → Type 0) → Lasts E → (d : ℕ) (i : Option (List Token → Read TypeTree)) → TypeInnerSound E d i → TypeSound E TypeLevel.primary d (type_primary i)
type_primary_sound E a d i s = record { sound = go }
  where
    atomic : (x : Atom) (p : Place) (ts : List Token) → E (word_at (atom_word x) p ∷ ts) → SpelledType E TypeLevel.primary d (word_at (atom_word x) p ∷ ts) (TypeTree.atom x p, ts)
    atomic x p ts h = (SpellsType.atom, omega arith, a.behind (word_at (atom_word x) p) ts refl h)

    by_kind : (p : Place) (ts : List Token) (k : TokenKind) → E (token k p ∷ ts) → Holds (SpelledType E TypeLevel.primary d (token k p ∷ ts)) (Fails E) (type_by_kind k i (token k p ∷ ts))
    by_kind p ts (kind.Ident n) h = (SpellsType.ident, omega arith, a.behind (ident_at n p) ts refl h)
    by_kind p ts (kind.Word word.Ns) h = (SpellsType.ns, omega arith, a.behind (word_at word.Ns p) ts refl h)
    by_kind p ts (kind.Word word.Int) h = atomic atom.Int p ts h
    by_kind p ts (kind.Word word.Bool) h = atomic atom.Bool p ts h
    by_kind p ts (kind.Word word.Char) h = atomic atom.Char p ts h
    by_kind p ts (kind.Word word.Comm) h = atomic atom.Comm p ts h
    by_kind p ts (kind.Word word.Compl) h = atomic atom.Compl p ts h
    by_kind p ts (kind.Word word.IntAcc) h = atomic atom.IntAcc p ts h
    by_kind p ts (kind.Word word.BoolAcc) h = atomic atom.BoolAcc p ts h
    by_kind p ts (kind.Word word.CharAcc) h = atomic atom.CharAcc p ts h
    by_kind p ts (kind.Sym symbol.OpenParen) h =
        holds_nested (SpelledType E TypeLevel.primary d (symbol_at symbol.OpenParen p ∷ ts)) (Fails E) i (symbol_at symbol.OpenParen p ∷ ts) (λ type. type_group type (symbol_at symbol.OpenParen p ∷ ts)) h
        (type_group_sound E a d i s p ts h)
    by_kind p ts _ h = h

    go : (ts : List Token) → E ts → Holds (SpelledType E TypeLevel.primary d ts) (Fails E) (type_primary i ts)
    go [] h = h
    go (t ∷ ts) h = by_kind t.place ts t.kind h

type_field_sound : (E : List Token → Type 0) → Lasts E → (d : ℕ) (i : Option (List Token → Read TypeTree)) → TypeInnerSound E d i → TypeSound E TypeLevel.field d (type_field i)
type_field_sound E a d i s = record {
  sound = λ ts h.
      let f = fields_sound E a ts h in
      holds_mapped (SpelledType E TypeLevel.primary d (fields_at ts).1) (Fails E) (SpelledType E TypeLevel.field d ts) (λ b. field_of (fields_at ts).0 b (front ts)) (type_primary i (fields_at ts).1)
      ((type_primary_sound E a d i s).sound (fields_at ts).1 f.1)
      (λ x m. (SpellsType.field f.0 m.0, rw (field_below (fields_at ts).0 x.0 (front ts)) m.1, m.2));
}

type_inter_sound : (E : List Token → Type 0) → Lasts E → (d : ℕ) (i : Option (List Token → Read TypeTree)) → TypeInnerSound E d i → TypeSound E TypeLevel.inter d (type_inter i)
type_inter_sound E a d i s = record {
  sound = λ ts h.
      holds_bind (SpelledType E TypeLevel.field d ts) (Fails E) (SpelledType E TypeLevel.inter d ts) (type_field i ts)
      (λ x. mapped (λ more. meet_of x.0 more (front ts)) (types_at (length x.1) symbol.Ampersand (type_field i) x.1)) ((type_field_sound E a d i s).sound ts h)
      (λ x m. holds_mapped (SpelledTypes E symbol.Ampersand TypeLevel.field d x.1) (Fails E) (SpelledType E TypeLevel.inter d ts) (λ more. meet_of x.0 more (front ts))
      (types_at (length x.1) symbol.Ampersand (type_field i) x.1) (types_sound E a symbol.Ampersand TypeLevel.field d (type_field i) (type_field_sound E a d i s) (length x.1) x.1 m.2)
      (λ y n. (SpellsType.inter m.0 n.0, rw (meet_below x.0 y.0 (front ts)) (omega (arith, m.1, n.1)), n.2)));
}

type_type_sound : (E : List Token → Type 0) → Lasts E → (d : ℕ) (i : Option (List Token → Read TypeTree)) → TypeInnerSound E d i → TypeSound E TypeLevel.type d (type_type i)
type_type_sound E a d i s = record {
  sound = λ ts h.
      holds_bind (SpelledType E TypeLevel.inter d ts) (Fails E) (SpelledType E TypeLevel.type d ts) (type_inter i ts) _ ((type_inter_sound E a d i s).sound ts h)
      (λ x m. holds_if (SpelledType E TypeLevel.type d ts) (Fails E) (begins_with symbol.Arrow x.1) _ (Ok x)
      (λ e. holds_nested (SpelledType E TypeLevel.type d ts) (Fails E) i x.1 _ m.2
      (λ g f. let (n, le, inside) = s.sound g f in
      holds_mapped (SpelledType E TypeLevel.type n (behind x.1)) (Fails E) (SpelledType E TypeLevel.type d ts) (λ b. TypeTree.arrow x.0 b (front ts)) (g (behind x.1))
      (inside.sound (behind x.1) (lasts_symbol E a symbol.Arrow x.1 e m.2))
      (λ y o. (SpellsType.arrow (subst (λ us. SpellsType TypeLevel.inter x.0 ts us) (begins_is symbol.Arrow x.1 e) m.0) o.0, omega (arith, m.1, o.1), o.2))))
      (λ e. (SpellsType.no_arrow m.0, m.1, m.2)));
}

type_inner_sound : (E : List Token → Type 0) → Lasts E → (d : ℕ) → TypeInnerSound E d (type_inner d)
unfolding type_inner
type_inner_sound E a zero = record { sound = λ g e. absurd cc }
type_inner_sound E a (suc d) = record {
  sound = λ g e.
      (d, omega arith, subst (TypeSound E TypeLevel.type d) (let s : type_type (type_inner d) ≡ g = cc in s) (type_type_sound E a d (type_inner d) (type_inner_sound E a d)));
}

pub read_type_sound : (E : List Token → Type 0) → Lasts E → (d : ℕ) → TypeSound E TypeLevel.type d (read_type d)
read_type_sound E a d = type_type_sound E a d (type_inner d) (type_inner_sound E a d)

pub read_field_sound : (E : List Token → Type 0) → Lasts E → (d : ℕ) → TypeSound E TypeLevel.field d (type_field (type_inner d))
read_field_sound E a d = type_field_sound E a d (type_inner d) (type_inner_sound E a d)

-- declarations
pub record SpelledDecl (E : List Token → Type 0) (d : ℕ) (ts : List Token) (x : DeclTree × List Token) : Type 0 where
  pub rest : List Token
  pub colon : Place
  pub is : ts ≡ ident_at x.0.name x.0.at ∷ symbol_at symbol.Colon colon ∷ rest
  pub spelled : SpelledType E TypeLevel.type d rest (x.0.type, x.1)

pub decl_sound : (E : List Token → Type 0) → Lasts E → (d : ℕ) (type : List Token → Read TypeTree) → TypeSound E TypeLevel.type d type → (ts : List Token) → E ts →
    Holds (SpelledDecl E d ts) (Fails E) (decl_at type ts)
decl_sound E a d type s ts h =
    holds_bind (IsNamed E ts) (Fails E) (SpelledDecl E d ts) (name_at ts) _ (name_sound E a ts h)
    (λ n hn. holds_bind (IsBehind E (symbol_at symbol.Colon (front n.1)) n.1) (Fails E) (SpelledDecl E d ts) (expect symbol.Colon n.1) _ (expect_sound E a symbol.Colon n.1 hn.1)
    (λ m hm. holds_mapped (SpelledType E TypeLevel.type d m) (Fails E) (SpelledDecl E d ts) (λ b. record { name = n.0; at = front ts; type = b }) (type m) (s.sound m hm.1)
    (λ x hx. record { rest = m; colon = front n.1; is = hn.0 ∙ ap (λ us. ident_at n.0 (front ts) ∷ us) hm.0; spelled = hx })))

abbrev pub SpelledDecls : (List Token → Type 0) → ℕ → List Token → List DeclTree × List Token → Type 0
SpelledDecls E d ts x = MoreDecls x.0 ts x.1 × (decls_nesting x.0 ≤ suc d) × E x.1

decl_more : (E : List Token → Type 0) (d : ℕ) (ts : List Token) (x : DeclTree × List Token) (y : List DeclTree × List Token) → begins_with symbol.Comma ts ≡ true →
    SpelledDecl E d (behind ts) x → SpelledDecls E d x.1 y → SpelledDecls E d ts (x.0 ∷ y.0, y.1)
decl_more E d ts x y e m n = (
  subst (λ us. MoreDecls (x.0 ∷ y.0) us y.1) (sym (begins_is symbol.Comma ts e ∙ ap (λ us. symbol_at symbol.Comma (front ts) ∷ us) m.is)) (MoreDecls.and_decl m.spelled.0 n.0),
  omega (arith, m.spelled.1, n.1),
  n.2,
)

pub decls_sound : (E : List Token → Type 0) → Lasts E → (d : ℕ) (type : List Token → Read TypeTree) → TypeSound E TypeLevel.type d type → (g : ℕ) (ts : List Token) → E ts →
    Holds (SpelledDecls E d ts) (Fails E) (decls_at g type ts)
decls_sound E a d type s zero ts h = (MoreDecls.no_decls, omega arith, h)
decls_sound E a d type s (suc g) ts h =
    holds_if (SpelledDecls E d ts) (Fails E) (begins_with symbol.Comma ts) _ (Ok ([], ts))
    (λ e. holds_bind (SpelledDecl E d (behind ts)) (Fails E) (SpelledDecls E d ts) (decl_at type (behind ts)) _ (decl_sound E a d type s (behind ts) (lasts_symbol E a symbol.Comma ts e h))
    (λ x m. holds_mapped (SpelledDecls E d x.1) (Fails E) (SpelledDecls E d ts) (λ more. x.0 ∷ more) (decls_at g type x.1) (decls_sound E a d type s g x.1 m.spelled.2)
    (λ y n. decl_more E d ts x y e m n)))
    (λ e. (MoreDecls.no_decls, omega arith, h))
