-- Where a token before other bytes is the longest.
use Rattle.std.proofs.Common.{◌≡◌, ℕ, ◌<◌, Bool, true, false, not, eqb, List, [], ◌∷◌, ◌++◌, length, refl, sym, ap, subst, ◌∙◌, arith, inl, inr, eq-eqb}
use Rattle.std.specs.List.{list_all}
use Rattle.std.proofs.lemmas.Bool.{cases_lt}
use Rattle.fy_base.specs.Outside.{Bytes}
use Rattle.fy_types.specs.Words.{is_name_byte}
use Rattle.fy_lexer.specs.declared.token.TokenKind.{TokenKind}
use Rattle.fy_lexer.specs.declared.token.TokenKind.TheVariants as kind
use Rattle.fy_lexer.specs.declared.token.Symbol.TheVariants as symbol
use Rattle.fy_lexer.specs.Spellings.{Spells, symbols}
use Rattle.fy_lexer.specs.Pieces.{IsLongest}
use Rattle.fy_lexer.proofs.RunLemmas.{and-left, and-right, lookup-all}
use Rattle.fy_lexer.proofs.ClassLemmas.{class_of, kind_class, first-token, filled-token, like-bytes, keyword-like, symbol-class}
use Rattle.fy_lexer.proofs.OverLemmas.{EndsTokens, longest_alone, longest_before}
use Rattle.fy_syntax.proofs.KindTexts.{spelled}

-- the end of a text, or a byte that no token goes on over
pub data Follows : Bytes → Type 0 where
  the_end : Follows []
  ending : {z : ℕ} {y : Bytes} → EndsTokens z → Follows (z ∷ y)

pub longest : (names : List Bytes) (k : TokenKind) (piece rest : Bytes) → Spells names k piece → Follows rest → IsLongest (piece ++ rest) piece
longest names k piece [] h follows = longest_alone piece
longest names k piece (z ∷ y) h (ending e) = longest_before z e names k piece y h

-- ---- an opening parenthesis, a dot and a backslash are tokens before any bytes

-- a symbol of one byte, or one that doesn't begin with this one
abbrev begins_none : ℕ → Bytes → Bool
begins_none z [] = true
begins_none z (b ∷ []) = true
begins_none z (b ∷ c ∷ bytes) = not (eqb b z)

-- a byte that is a symbol, and with which no longer one begins
record IsAlone (z : ℕ) : Type 0 where
  none : list_all (λ e. begins_none z e.0) symbols ≡ true
  class : class_of z ≡ 7

open-alone : IsAlone 40
unfolding symbols
open-alone = record { none = refl; class = symbol-class 40 [] symbol.OpenParen (spelled [] (kind.Sym symbol.OpenParen) tt tt) }

dot-alone : IsAlone 46
unfolding symbols
dot-alone = record { none = refl; class = symbol-class 46 [] symbol.Dot (spelled [] (kind.Sym symbol.Dot) tt tt) }

backslash-alone : IsAlone 92
unfolding symbols
backslash-alone = record { none = refl; class = symbol-class 92 [] symbol.Backslash (spelled [] (kind.Sym symbol.Backslash) tt tt) }

no_more : (z : ℕ) → IsAlone z → (names : List Bytes) (k : TokenKind) (c : ℕ) (more : Bytes) → Spells names k (z ∷ c ∷ more) → ⊥
no_more z alone names k c more h = by k h (sym alone.class ∙ first-token names k z (c ∷ more) h)
  where
    by : (k : TokenKind) → Spells names k (z ∷ c ∷ more) → 7 ≡ kind_class k → ⊥
    by (kind.Ident n) h e = omega (arith, e)
    by (kind.Word w) h e = omega (arith, e)
    by (kind.Number v) h e = omega (arith, e)
    by (kind.Letter b) h e = omega (arith, e)
    by (kind.Str bytes) h e = omega (arith, e)
    by (kind.Sym s) h e =
        let f : not (eqb z z) ≡ true = lookup-all (begins_none z) symbols (z ∷ c ∷ more) s alone.none h in
        let g : false ≡ true = sym (ap not (eq-eqb z z refl)) ∙ f in cc
    by kind.End h e = h

alone-longest : (z : ℕ) → IsAlone z → (rest : Bytes) → IsLongest (z ∷ rest) (z ∷ [])
alone-longest z alone rest [] others e t = omega arith
alone-longest z alone rest (b ∷ []) others e t = omega arith
alone-longest z alone rest (b ∷ c ∷ more) others e t =
    let same : b ≡ z = cc in
    absurd (no_more z alone t.names t.kind c more (subst (λ x. Spells t.names t.kind (x ∷ c ∷ more)) same t.spelled))

pub open-longest : (rest : Bytes) → IsLongest (40 ∷ rest) (40 ∷ [])
open-longest rest = alone-longest 40 open-alone rest

pub dot-longest : (rest : Bytes) → IsLongest (46 ∷ rest) (46 ∷ [])
dot-longest rest = alone-longest 46 dot-alone rest

pub backslash-longest : (rest : Bytes) → IsLongest (92 ∷ rest) (92 ∷ [])
backslash-longest rest = alone-longest 92 backslash-alone rest

-- ---- an identifier is a token before a colon

longer_front : (a x b y : Bytes) → a ++ x ≡ b ++ y → length a < length b → (c : ℕ) × (more : Bytes) × (b ≡ a ++ c ∷ more) × (x ≡ c ∷ more ++ y)
longer_front [] x [] y e h = absurd (omega arith)
longer_front [] x (c ∷ b) y e h = (c, b, refl, e)
longer_front (d ∷ a) x [] y e h = absurd (omega arith)
longer_front (d ∷ a) x (c ∷ b) y e h =
    let t : a ++ x ≡ b ++ y = cc in
    let i : c ≡ d = cc in
    let r = longer_front a x b y t (omega arith) in
    (r.0, r.1, ap (λ l. c ∷ l) r.2 ∙ ap (λ n. n ∷ a ++ r.0 ∷ r.1) i, r.3)

all_at : (p : ℕ → Bool) (a m : Bytes) (c : ℕ) → list_all p (a ++ c ∷ m) ≡ true → p c ≡ true
all_at p [] m c h = and-left _ _ h
all_at p (b ∷ a) m c h = all_at p a m c (and-right _ _ h)

-- a token that begins as an identifier is of the bytes of names
name_bytes : (names : List Bytes) (k : TokenKind) (piece : Bytes) → Spells names k piece → kind_class k ≡ 1 → list_all is_name_byte piece ≡ true
name_bytes names (kind.Ident n) piece h e = like-bytes piece (and-left _ _ h.0)
name_bytes names (kind.Word w) piece h e = like-bytes piece (keyword-like piece w h)
name_bytes names (kind.Number v) piece h e = absurd (omega (arith, e))
name_bytes names (kind.Letter b) piece h e = absurd (omega (arith, e))
name_bytes names (kind.Str bytes) piece h e = absurd (omega (arith, e))
name_bytes names (kind.Sym s) piece h e = absurd (omega (arith, e))
name_bytes names kind.End piece h e = absurd h

no_colon : (names others : List Bytes) (n : ℕ) (k : TokenKind) (piece more : Bytes) → Spells names (kind.Ident n) piece → Spells others k (piece ++ 58 ∷ more) → ⊥
no_colon names others n k [] more h t = filled-token names (kind.Ident n) h
no_colon names others n k (b ∷ a) more h t =
    let class : kind_class k ≡ 1 = sym (first-token others k b (a ++ 58 ∷ more) t) ∙ first-token names (kind.Ident n) b a h in
    let f : false ≡ true = all_at is_name_byte (b ∷ a) more 58 (name_bytes others k (b ∷ (a ++ 58 ∷ more)) t class) in cc

pub colon-longest : (names : List Bytes) (n : ℕ) (piece rest : Bytes) → Spells names (kind.Ident n) piece → IsLongest (piece ++ 58 ∷ rest) piece
colon-longest names n piece rest h longer others e t =
    elim (cases_lt (length piece) (length longer)) [
      | inl lt ↦
          let r = longer_front piece (58 ∷ rest) longer others e lt in
          let same : r.0 ≡ 58 = colon_first r.0 rest (r.1 ++ others) r.3 in
          absurd (no_colon names t.names n t.kind piece r.1 h (subst (λ l. Spells t.names t.kind l) (r.2 ∙ ap (λ b. piece ++ b ∷ r.1) same) t.spelled))
      | inr ge ↦ ge
    ]
  where
    colon_first : (c : ℕ) (rest more : Bytes) → 58 ∷ rest ≡ c ∷ more → c ≡ 58
    colon_first c rest more e = cc
