-- The first byte of a piece says of what class it is.
use Rattle.std.proofs.Common.{◌≡◌, ℕ, ◌≤◌, Bool, true, false, not, ◌||◌, eqb, nat_le, if◌then◌else◌, List, [], ◌∷◌, length, map, refl, sym, ap, ◌∙◌, arith, Some, None, is_some, ◌⊎◌, inl, inr}
use Rattle.std.specs.List.{list_all, list_any}
use Rattle.std.specs.Str.{bytes_eq}
use Rattle.std.proofs.lemmas.Bool.Decides.{nat_tests}
use Rattle.std.proofs.lemmas.Bool.{eqb-true, leb-true}
use Rattle.fy_base.specs.Outside.{Bytes}
use Rattle.fy_types.specs.Words.{is_letter, is_digit, is_name_byte, is_name_like, is_word, words}
use Rattle.fy_lexer.specs.declared.token.TokenKind.{TokenKind}
use Rattle.fy_lexer.specs.declared.token.TokenKind.TheVariants.{Ident, Number, Letter, Str, Word, Sym, End}
use Rattle.fy_lexer.specs.declared.token.Keyword.{Keyword}
use Rattle.fy_lexer.specs.declared.token.Symbol.{Symbol}
use Rattle.fy_lexer.specs.Spellings.{keywords, symbols, keyword_of, symbol_of, Spells}
use Rattle.fy_lexer.specs.Pieces.{is_blank, IsGap, IsPiece}
use Rattle.fy_lexer.specs.Reading.{begins_other}
use Rattle.fy_lexer.proofs.RunLemmas.{and-left, and-right, and-both, lookup-all, lookup-any, lookup-no}

-- whether a byte is a symbol
abbrev pub is_symbol_byte : ℕ → Bool
is_symbol_byte b = is_some (symbol_of (b ∷ []))

-- the class of the pieces that a byte begins: 1 names, 2 numbers, 3 characters, 4 strings, 5 blanks, 6 comments, 7 symbols, 0 none
pub class_of : ℕ → ℕ
class_of b =
    if is_letter b then 1 else
    if is_digit b then 2 else
    if eqb b 39 then 3 else
    if eqb b 34 then 4 else
    if is_blank b then 5 else
    if eqb b 123 then 6 else
    if is_symbol_byte b then 7 else 0

-- and the class of a kind of tokens
abbrev pub kind_class : TokenKind → ℕ
kind_class (Ident name) = 1
kind_class (Word keyword) = 1
kind_class (Number n) = 2
kind_class (Letter value) = 3
kind_class (Str values) = 4
kind_class (Sym symbol) = 7
kind_class End = 8

pub class-letter : (b : ℕ) → is_letter b ≡ true → class_of b ≡ 1
unfolding class_of
class-letter b h = ap (λ t. if t then 1 else if is_digit b then 2 else if eqb b 39 then 3 else if eqb b 34 then 4 else if is_blank b then 5 else if eqb b 123 then 6 else if is_symbol_byte b then 7 else 0) h

digit_no_letter : (b : ℕ) → is_digit b ≡ true → is_letter b ≡ false
digit_no_letter b h = grind (arith, nat_tests)

pub class-digit : (b : ℕ) → is_digit b ≡ true → class_of b ≡ 2
unfolding class_of
class-digit b h = rw (digit_no_letter b h, h) refl

blank_cases : (b : ℕ) → is_blank b ≡ true → (b ≡ 9) ⊎ ((b ≡ 10) ⊎ ((b ≡ 13) ⊎ (b ≡ 32)))
blank_cases b h = grind (arith, nat_tests)

pub class-blank : (b : ℕ) → is_blank b ≡ true → class_of b ≡ 5
unfolding class_of
class-blank b h = by (blank_cases b h)
  where
    by : (b ≡ 9) ⊎ ((b ≡ 10) ⊎ ((b ≡ 13) ⊎ (b ≡ 32))) → class_of b ≡ 5
    by (inl e) = ap class_of e
    by (inr (inl e)) = ap class_of e
    by (inr (inr (inl e))) = ap class_of e
    by (inr (inr (inr e))) = ap class_of e

pub class-quote : (b : ℕ) → b ≡ 39 → class_of b ≡ 3
unfolding class_of
class-quote b e = ap class_of e

pub class-double : (b : ℕ) → b ≡ 34 → class_of b ≡ 4
unfolding class_of
class-double b e = ap class_of e

pub class-brace : (b : ℕ) → b ≡ 123 → class_of b ≡ 6
unfolding class_of
class-brace b e = ap class_of e

-- a byte that begins none of the other pieces
pub class-other : (b : ℕ) → begins_other b ≡ true → class_of b ≡ (if is_symbol_byte b then 7 else 0)
unfolding class_of
class-other b h =
    let gap = and-left _ _ h in
    let rest = and-right _ _ h in
    let letter : is_letter b ≡ false = off _ (and-left _ _ rest) in
    let rest2 = and-right _ _ rest in
    let digit : is_digit b ≡ false = off _ (and-left _ _ rest2) in
    let rest3 = and-right _ _ rest2 in
    let quote : eqb b 39 ≡ false = off _ (and-left _ _ rest3) in
    let double : eqb b 34 ≡ false = off _ (and-right _ _ rest3) in
    let blank : is_blank b ≡ false = off _ (and-left _ _ gap) in
    let brace : eqb b 123 ≡ false = off _ (and-right _ _ gap) in
    rw (letter, digit, quote, double, blank, brace) refl
  where
    off : (t : Bool) → not t ≡ true → t ≡ false
    off true e = sym e
    off false e = refl

-- words
keywords_like : list_all (λ e. is_name_like e.0) keywords ≡ true
unfolding keywords
keywords_like = refl

pub keyword-like : (piece : Bytes) (k : Keyword) → keyword_of piece ≡ Some k → is_name_like piece ≡ true
keyword-like piece k h = lookup-all is_name_like keywords piece k keywords_like h

keywords_words : map (λ e. e.0) keywords ≡ words
unfolding keywords
keywords_words = refl

pub keyword-word : (piece : Bytes) (k : Keyword) → keyword_of piece ≡ Some k → is_word piece ≡ true
keyword-word piece k h = sym (ap (list_any (bytes_eq piece)) keywords_words) ∙ lookup-any (bytes_eq piece) keywords k h

pub no_keyword-word : (piece : Bytes) → keyword_of piece ≡ None → is_word piece ≡ false
no_keyword-word piece h = sym (ap (list_any (bytes_eq piece)) keywords_words) ∙ lookup-no (bytes_eq piece) keywords h

-- symbols
abbrev first_of : Bytes → ℕ
first_of [] = 0
first_of (b ∷ bytes) = b

symbols_class : list_all (λ e. eqb (class_of (first_of e.0)) 7) symbols ≡ true
unfolding symbols class_of
symbols_class = refl

symbols_short : list_all (λ e. nat_le (length e.0) 2) symbols ≡ true
unfolding symbols
symbols_short = refl

symbols_filled : list_all (λ e. nat_le 1 (length e.0)) symbols ≡ true
unfolding symbols
symbols_filled = refl

pub symbol-class : (b : ℕ) (more : Bytes) (s : Symbol) → symbol_of (b ∷ more) ≡ Some s → class_of b ≡ 7
symbol-class b more s h = eqb-true (class_of b) 7 (lookup-all (λ t. eqb (class_of (first_of t)) 7) symbols (b ∷ more) s symbols_class h)

pub symbol-short : (piece : Bytes) (s : Symbol) → symbol_of piece ≡ Some s → length piece ≤ 2
symbol-short piece s h = leb-true (length piece) 2 (lookup-all (λ t. nat_le (length t) 2) symbols piece s symbols_short h)

pub symbol-filled : (piece : Bytes) (s : Symbol) → symbol_of piece ≡ Some s → 1 ≤ length piece
symbol-filled piece s h = leb-true 1 (length piece) (lookup-all (λ t. nat_le 1 (length t)) symbols piece s symbols_filled h)

-- all bytes of a text that begins like a name are bytes of names
letter-name : (b : ℕ) → is_letter b ≡ true → is_name_byte b ≡ true
letter-name b h = ap (λ t. t || (is_digit b || eqb b 95)) h

pub like-bytes : (piece : Bytes) → is_name_like piece ≡ true → list_all is_name_byte piece ≡ true
like-bytes [] h = refl
like-bytes (b ∷ piece) h = and-both _ _ (letter-name b (and-left _ _ h)) (and-right _ _ h)

like-letter : (b : ℕ) (more : Bytes) → is_name_like (b ∷ more) ≡ true → is_letter b ≡ true
like-letter b more h = and-left _ _ h

-- the class of a token is that of its first byte
pub first-token : (names : List Bytes) (kind : TokenKind) (b : ℕ) (more : Bytes) → Spells names kind (b ∷ more) → class_of b ≡ kind_class kind
first-token names (Ident name) b more h = class-letter b (like-letter b more (and-left (is_name_like (b ∷ more)) _ h.0))
first-token names (Word keyword) b more h = class-letter b (like-letter b more (keyword-like (b ∷ more) keyword h))
first-token names (Number n) b more h = class-digit b (and-left _ _ h.0)
first-token names (Letter value) b more h = let e : b ≡ 39 = let t = h.1 in cc in class-quote b e
first-token names (Str values) b more h = let e : b ≡ 34 = let t = h.1 in cc in class-double b e
first-token names (Sym symbol) b more h = symbol-class b more symbol h
first-token names End b more h = absurd h

pub first-gap : (b : ℕ) (more : Bytes) → IsGap (b ∷ more) → (class_of b ≡ 5) ⊎ (class_of b ≡ 6)
first-gap b more (inl h) = let e : b ≡ h.0 = let t = h.1 in cc in inl (ap class_of e ∙ class-blank h.0 h.2)
first-gap b more (inr h) = let e : b ≡ 123 = let t = h.is in cc in inr (class-brace b e)

-- no piece is empty
pub filled-token : (names : List Bytes) (kind : TokenKind) → Spells names kind [] → ⊥
filled-token names (Ident name) h = let e : false ≡ true = h.0 in cc
filled-token names (Word keyword) h = let e : false ≡ true = keyword-like [] keyword h in cc
filled-token names (Number n) h = let e : false ≡ true = h.0 in cc
filled-token names (Letter value) h = let e = h.1 in cc
filled-token names (Str values) h = let e = h.1 in cc
filled-token names (Sym symbol) h = let k : 1 ≤ 0 = symbol-filled [] symbol h in omega (arith, k)
filled-token names End h = h

pub filled-gap : IsGap [] → ⊥
filled-gap (inl h) = let e = h.1 in cc
filled-gap (inr h) = let e = h.is in cc

pub filled-piece : IsPiece [] → ⊥
filled-piece (inl h) = filled-gap h
filled-piece (inr h) = filled-token h.names h.kind h.spelled
