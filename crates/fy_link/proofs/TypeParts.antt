-- The tokens that spell a type: none of them is `.` or `|`, and they spell it before any rest.
use Rattle.std.proofs.Common.{◌≡◌, ℕ, List, [], ◌∷◌, ◌++◌, false, refl, sym, ap, ◌∙◌, subst}
use Rattle.std.proofs.lemmas.List.{append_assoc}
use Rattle.fy_base.specs.declared.data.Place.{Place}
use Rattle.fy_lexer.specs.declared.token.Token.{Token}
use Rattle.fy_lexer.specs.declared.token.Symbol.{Symbol}
use Rattle.fy_lexer.specs.declared.token.Symbol.TheVariants as symbol
use Rattle.fy_lexer.specs.declared.token.Keyword.TheVariants as word
use Rattle.fy_syntax.specs.Trees.{TypeTree, TypeTrees}
use Rattle.fy_syntax.specs.Signs.{TypeLevel, word_at, symbol_at, ident_at, front, atom_word}
use Rattle.fy_syntax.specs.Spells.{Fields, SpellsType, MoreTypes, meet_of, field_of}
use Rattle.fy_link.specs.Header.{ends_type}

-- no token is `.` or `|`
abbrev pub IsClean : List Token → Type 0
IsClean [] = Unit {0}
IsClean (t ∷ ts) = (ends_type t ≡ false) × IsClean ts

clean-append : (ts us : List Token) → IsClean ts → IsClean us → IsClean (ts ++ us)
clean-append [] us h k = k
clean-append (t ∷ ts) us h k = (h.0, clean-append ts us h.1 k)

pub record TypePart (l : TypeLevel) (a : TypeTree) (ts r : List Token) : Type 0 where
  pub own : List Token
  pub is : ts ≡ own ++ r
  pub clean : IsClean own
  pub first : (z : List Token) → front (own ++ z) ≡ front ts
  pub again : (z : List Token) → SpellsType l a (own ++ z) z

record TypesPart (s : Symbol) (l : TypeLevel) (more : TypeTrees) (ts r : List Token) : Type 0 where
  pub own : List Token
  pub is : ts ≡ own ++ r
  pub clean : IsClean own
  pub again : (z : List Token) → MoreTypes s l more (own ++ z) z

record FieldsPart (names : List ℕ) (ts r : List Token) : Type 0 where
  pub own : List Token
  pub is : ts ≡ own ++ r
  pub clean : IsClean own
  pub again : (z : List Token) → Fields names (own ++ z) z

-- a part and a further one behind it
both-are : (p q ts m r : List Token) → ts ≡ p ++ m → m ≡ q ++ r → ts ≡ (p ++ q) ++ r
both-are p q ts m r e f = e ∙ (ap (λ x. p ++ x) f ∙ sym (append_assoc p q r))

front-both : (p q ts m z : List Token) → ts ≡ p ++ m → front (q ++ z) ≡ front m → front ((p ++ q) ++ z) ≡ front ts
front-both [] q ts m z e k = k ∙ ap front (sym e)
front-both (t ∷ p) q ts m z e k = ap front (sym e)

type-as : {l : TypeLevel} (a b : TypeTree) (ts us r : List Token) → a ≡ b → ts ≡ us → SpellsType l a ts r → SpellsType l b us r
type-as {l} a b ts us r e f x = subst (λ t. SpellsType l b t r) f (subst (λ c. SpellsType l c ts r) e x)

fields-part : {names : List ℕ} {ts r : List Token} → Fields names ts r → FieldsPart names ts r
fields-part Fields.no_fields = record { own = []; is = refl; clean = tt; again = λ z. Fields.no_fields }
fields-part (Fields.and_field {n = n} {p = p} {q = q} x) =
    let f = fields-part x in
    record {
      own = ident_at n p ∷ symbol_at symbol.Colon q ∷ f.own;
      is = ap (λ (m : List Token). ident_at n p ∷ symbol_at symbol.Colon q ∷ m) f.is;
      clean = (refl, (refl, f.clean));
      again = λ z. Fields.and_field (f.again z);
    }

mutual
  pub type-part : {l : TypeLevel} {a : TypeTree} {ts r : List Token} → SpellsType l a ts r → TypePart l a ts r
  type-part (SpellsType.arrow {a = a} {b = b} {ts = ts} {m = m} {r = r} {p = p} x y) =
      let f = type-part x in
      let g = type-part y in
      let sign = symbol_at symbol.Arrow p in
      record {
        own = f.own ++ sign ∷ g.own;
        is = both-are f.own (sign ∷ g.own) ts (sign ∷ m) r f.is (ap (λ (k : List Token). sign ∷ k) g.is);
        clean = clean-append f.own (sign ∷ g.own) f.clean (refl, g.clean);
        first = λ z. front-both f.own (sign ∷ g.own) ts (sign ∷ m) z f.is refl;
        again = λ z.
            type-as (TypeTree.arrow a b (front (f.own ++ sign ∷ (g.own ++ z)))) (TypeTree.arrow a b (front ts)) (f.own ++ sign ∷ (g.own ++ z)) ((f.own ++ sign ∷ g.own) ++ z) z
            (ap (λ q. TypeTree.arrow a b q) (f.first (sign ∷ (g.own ++ z)))) (sym (append_assoc f.own (sign ∷ g.own) z))
            (SpellsType.arrow (f.again (sign ∷ (g.own ++ z))) (g.again z));
      }
  type-part (SpellsType.no_arrow x) =
      let f = type-part x in
      record { own = f.own; is = f.is; clean = f.clean; first = f.first; again = λ z. SpellsType.no_arrow (f.again z) }
  type-part (SpellsType.inter {a = a} {more = more} {ts = ts} {m = m} {r = r} x y) =
      let f = type-part x in
      let g = types-part symbol.Ampersand (λ p. refl) y in
      record {
        own = f.own ++ g.own;
        is = both-are f.own g.own ts m r f.is g.is;
        clean = clean-append f.own g.own f.clean g.clean;
        first = λ z. ap front (append_assoc f.own g.own z) ∙ f.first (g.own ++ z);
        again = λ z.
            type-as (meet_of a more (front (f.own ++ (g.own ++ z)))) (meet_of a more (front ts)) (f.own ++ (g.own ++ z)) ((f.own ++ g.own) ++ z) z
            (ap (λ q. meet_of a more q) (f.first (g.own ++ z))) (sym (append_assoc f.own g.own z))
            (SpellsType.inter (f.again (g.own ++ z)) (g.again z));
      }
  type-part (SpellsType.field {names = names} {a = a} {ts = ts} {m = m} {r = r} x y) =
      let f = fields-part x in
      let g = type-part y in
      let first : (z : List Token) → front ((f.own ++ g.own) ++ z) ≡ front ts = λ z. front-both f.own g.own ts m z f.is (g.first z) in
      record {
        own = f.own ++ g.own;
        is = both-are f.own g.own ts m r f.is g.is;
        clean = clean-append f.own g.own f.clean g.clean;
        first = first;
        again = λ z.
            type-as (field_of names a (front (f.own ++ (g.own ++ z)))) (field_of names a (front ts)) (f.own ++ (g.own ++ z)) ((f.own ++ g.own) ++ z) z
            (ap (λ q. field_of names a q) (ap front (sym (append_assoc f.own g.own z)) ∙ first z)) (sym (append_assoc f.own g.own z))
            (SpellsType.field (f.again (g.own ++ z)) (g.again z));
      }
  type-part (SpellsType.ns {p = p}) =
      record { own = word_at word.Ns p ∷ []; is = refl; clean = (refl, tt); first = λ z. refl; again = λ z. SpellsType.ns }
  type-part (SpellsType.atom {a = a} {p = p}) =
      record { own = word_at (atom_word a) p ∷ []; is = refl; clean = (refl, tt); first = λ z. refl; again = λ z. SpellsType.atom }
  type-part (SpellsType.ident {n = n} {p = p}) =
      record { own = ident_at n p ∷ []; is = refl; clean = (refl, tt); first = λ z. refl; again = λ z. SpellsType.ident }
  type-part (SpellsType.group {a = a} {ts = ts} {r = r} {p = p} {q = q} x) =
      let f = type-part x in
      let opening = symbol_at symbol.OpenParen p in
      let close = symbol_at symbol.CloseParen q in
      record {
        own = opening ∷ (f.own ++ close ∷ []);
        is = ap (λ (k : List Token). opening ∷ k) (both-are f.own (close ∷ []) ts (close ∷ r) r f.is refl);
        clean = (refl, clean-append f.own (close ∷ []) f.clean (refl, tt));
        first = λ z. refl;
        again = λ z. subst (λ k. SpellsType TypeLevel.primary (TypeTree.group a p) (opening ∷ k) z) (sym (append_assoc f.own (close ∷ []) z)) (SpellsType.group (f.again (close ∷ z)));
      }

  types-part : (s : Symbol) {l : TypeLevel} {more : TypeTrees} {ts r : List Token} → ((p : Place) → ends_type (symbol_at s p) ≡ false) → MoreTypes s l more ts r → TypesPart s l more ts r
  types-part s k MoreTypes.no_types = record { own = []; is = refl; clean = tt; again = λ z. MoreTypes.no_types }
  types-part s {l = l} k (MoreTypes.and_type {a = a} {more = more} {ts = ts} {m = m} {r = r} {p = p} x y) =
      let f = type-part x in
      let g = types-part s k y in
      let sign = symbol_at s p in
      record {
        own = sign ∷ (f.own ++ g.own);
        is = ap (λ (n : List Token). sign ∷ n) (both-are f.own g.own ts m r f.is g.is);
        clean = (k p, clean-append f.own g.own f.clean g.clean);
        again = λ z. subst (λ n. MoreTypes s l (TypeTrees.and_type a more) (sign ∷ n) z) (sym (append_assoc f.own g.own z)) (MoreTypes.and_type (f.again (g.own ++ z)) (g.again z));
      }
