-- Bytes that no token goes on over, as a closing parenthesis: the longest token before one is the longest without it.
use Rattle.std.proofs.Common.{◌≡◌, ℕ, ◌<◌, ◌≤◌, Bool, true, false, not, eqb, nat_lt, List, [], ◌∷◌, ◌++◌, length, refl, sym, ap, subst, ◌∙◌, arith, append_assoc, length-append, eq-eqb}
use Rattle.std.specs.List.{list_all}
use Rattle.std.proofs.lemmas.Bool.Decides.{nat_tests}
use Rattle.fy_base.specs.Outside.{Bytes}
use Rattle.fy_types.specs.Words.{is_name_byte, is_digit}
use Rattle.fy_lexer.specs.declared.token.TokenKind.{TokenKind}
use Rattle.fy_lexer.specs.declared.token.TokenKind.TheVariants as kind
use Rattle.fy_lexer.specs.Spellings.{Element, Elements, Spells, symbols, is_numeral}
use Rattle.fy_lexer.specs.Pieces.{IsLongest}
use Rattle.fy_lexer.proofs.RunLemmas.{and-left, and-right, lookup-all}
use Rattle.fy_lexer.proofs.ClassLemmas.{kind_class, first-token, filled-token, like-bytes, keyword-like}
use Rattle.fy_lexer.proofs.ElementLemmas.{peel, element-front, element-head}
use Rattle.fy_lexer.proofs.LiteralLemmas.{double_no_backslash}

all_at : (p : ℕ → Bool) (a m : Bytes) (c : ℕ) → list_all p (a ++ c ∷ m) ≡ true → p c ≡ true
all_at p [] m c h = and-left _ _ h
all_at p (b ∷ a) m c h = all_at p a m c (and-right _ _ h)

numeral_digits : (piece : Bytes) → is_numeral piece ≡ true → list_all is_digit piece ≡ true
numeral_digits [] h = absurd cc
numeral_digits (b ∷ piece) h = h

-- a symbol is one byte, or has no closing parenthesis
abbrev pub apart : ℕ → Bytes → Bool
apart z [] = true
apart z (b ∷ []) = true
apart z (b ∷ c ∷ bytes) = list_all (λ x. not (eqb x z)) (b ∷ c ∷ bytes)

-- no token goes on over this byte
pub record EndsTokens (z : ℕ) : Type 0 where
  pub names : is_name_byte z ≡ false
  pub digits : is_digit z ≡ false
  pub symbols_apart : list_all (λ e. apart z e.0) symbols ≡ true

pub close-ends : EndsTokens 41
unfolding symbols
close-ends = record { names = refl; digits = refl; symbols_apart = refl }

pub blank-ends : EndsTokens 32
unfolding symbols
blank-ends = record { names = refl; digits = refl; symbols_apart = refl }

long_apart : (z b : ℕ) (a : Bytes) (c : ℕ) (m : Bytes) → apart z (b ∷ (a ++ c ∷ m)) ≡ true → list_all (λ x. not (eqb x z)) (b ∷ (a ++ c ∷ m)) ≡ true
long_apart z b [] c m h = h
long_apart z b (d ∷ a) c m h = h

letter_of : (names : List Bytes) (k : TokenKind) (a : Bytes) → Spells names k a → kind_class k ≡ 3 → (c : ℕ) × (inside : Bytes) × (a ≡ 39 ∷ inside ++ 39 ∷ []) × Element 39 inside c
letter_of names (kind.Letter c) a h e = (c, h.0, h.1, h.2)
letter_of names (kind.Ident n) a h e = absurd (omega (arith, e))
letter_of names (kind.Word w) a h e = absurd (omega (arith, e))
letter_of names (kind.Number v) a h e = absurd (omega (arith, e))
letter_of names (kind.Str bytes) a h e = absurd (omega (arith, e))
letter_of names (kind.Sym s) a h e = absurd (omega (arith, e))
letter_of names kind.End a h e = absurd h

string_of : (names : List Bytes) (k : TokenKind) (a : Bytes) → Spells names k a → kind_class k ≡ 4 → (bytes : Bytes) × (inside : Bytes) × (a ≡ 34 ∷ inside ++ 34 ∷ []) × Elements 34 inside bytes
string_of names (kind.Str bytes) a h e = (bytes, h.0, h.1, h.2)
string_of names (kind.Ident n) a h e = absurd (omega (arith, e))
string_of names (kind.Word w) a h e = absurd (omega (arith, e))
string_of names (kind.Number v) a h e = absurd (omega (arith, e))
string_of names (kind.Letter c) a h e = absurd (omega (arith, e))
string_of names (kind.Sym s) a h e = absurd (omega (arith, e))
string_of names kind.End a h e = absurd h

same_classes : (names names' : List Bytes) (k k' : TokenKind) (a more : Bytes) → Spells names k a → Spells names' k' (a ++ more) → kind_class k ≡ kind_class k'
same_classes names names' k k' [] more h h' = absurd (filled-token names k h)
same_classes names names' k k' (b ∷ a) more h h' = sym (first-token names k b a h) ∙ first-token names' k' b (a ++ more) h'

inside_text : (quote : ℕ) (a inside inside' more : Bytes) → a ≡ quote ∷ inside ++ quote ∷ [] → a ++ more ≡ quote ∷ inside' ++ quote ∷ [] →
    inside ++ (quote ∷ more) ≡ inside' ++ quote ∷ []
inside_text quote a inside inside' more e f =
    let s : (quote ∷ inside ++ quote ∷ []) ++ more ≡ quote ∷ inside' ++ quote ∷ [] = ap (λ l. l ++ more) (sym e) ∙ f in
    let u : (inside ++ quote ∷ []) ++ more ≡ inside' ++ quote ∷ [] = cc in sym (append_assoc inside (quote ∷ []) more) ∙ u

string_stops : (inside : Bytes) (c : ℕ) (more : Bytes) (others : Bytes) → Elements 34 inside others → 34 ∷ c ∷ more ≡ inside ++ 34 ∷ [] → ⊥
string_stops inside c more [] h e = let s : 34 ∷ c ∷ more ≡ 34 ∷ [] = e ∙ ap (λ l. l ++ 34 ∷ []) h in cc
string_stops inside c more (v ∷ others) h e =
    element-head 34 h.0 (h.1 ++ 34 ∷ []) (c ∷ more) v 34 h.3 (sym (append_assoc h.0 h.1 (34 ∷ [])) ∙ ap (λ l. l ++ 34 ∷ []) (sym h.2) ∙ sym e) double_no_backslash refl

-- no token goes on behind a token and over a closing parenthesis
no_token_over : (z : ℕ) → EndsTokens z → (names names' : List Bytes) (k k' : TokenKind) (a x y : Bytes) → Spells names k a → Spells names' k' (a ++ (x ++ z ∷ y)) → ⊥
no_token_over z ends names names' k k' a x y h h' = by k' h'
  where
    w : (p : ℕ → Bool) → list_all p (a ++ (x ++ z ∷ y)) ≡ true → p z ≡ true
    w p e = all_at p (a ++ x) y z (subst (λ l. list_all p l ≡ true) (sym (append_assoc a x (z ∷ y))) e)

    first_of_rest : (x : Bytes) → (c : ℕ) × (more : Bytes) × (x ++ z ∷ y ≡ c ∷ more)
    first_of_rest [] = (z, y, refl)
    first_of_rest (c ∷ x) = (c, x ++ z ∷ y, refl)

    filled_symbol : (a x : Bytes) → Spells names k a → apart z (a ++ (x ++ z ∷ y)) ≡ true → list_all (λ b. not (eqb b z)) (a ++ (x ++ z ∷ y)) ≡ true
    filled_symbol [] x h e = absurd (filled-token names k h)
    filled_symbol (b ∷ a) [] h e = long_apart z b a z y e
    filled_symbol (b ∷ a) (c ∷ x) h e = long_apart z b a c (x ++ z ∷ y) e

    by : (k' : TokenKind) → Spells names' k' (a ++ (x ++ z ∷ y)) → ⊥
    by (kind.Ident n) h' = let e : is_name_byte z ≡ true = w is_name_byte (like-bytes (a ++ (x ++ z ∷ y)) (and-left _ _ h'.0)) in let f : false ≡ true = sym ends.names ∙ e in cc
    by (kind.Word v) h' = let e : is_name_byte z ≡ true = w is_name_byte (like-bytes (a ++ (x ++ z ∷ y)) (keyword-like (a ++ (x ++ z ∷ y)) v h')) in let f : false ≡ true = sym ends.names ∙ e in cc
    by (kind.Number v) h' = let e : is_digit z ≡ true = w is_digit (numeral_digits (a ++ (x ++ z ∷ y)) h'.0) in let f : false ≡ true = sym ends.digits ∙ e in cc
    by (kind.Sym s) h' =
        let e : not (eqb z z) ≡ true = w (λ b. not (eqb b z)) (filled_symbol a x h (lookup-all (apart z) symbols (a ++ (x ++ z ∷ y)) s ends.symbols_apart h')) in let f : false ≡ true = sym (ap not (eq-eqb z z refl)) ∙ e in cc
    by (kind.Letter c) h' =
        let l = letter_of names k a h (same_classes names names' k (kind.Letter c) a (x ++ z ∷ y) h h') in
        let r = first_of_rest x in
        let f = element-front 39 l.1 h'.0 (39 ∷ (x ++ z ∷ y)) (39 ∷ []) l.0 c l.3 h'.2 (inside_text 39 a l.1 h'.0 (x ++ z ∷ y) l.2 h'.1) in
        let e : 39 ∷ r.0 ∷ r.1 ≡ 39 ∷ [] = ap (λ l. 39 ∷ l) (sym r.2) ∙ f.2 in cc
    by (kind.Str bytes) h' =
        let l = string_of names k a h (same_classes names names' k (kind.Str bytes) a (x ++ z ∷ y) h h') in
        let r = first_of_rest x in
        let p = peel 34 double_no_backslash l.0 bytes l.1 h'.0 (34 ∷ (x ++ z ∷ y)) [] l.3 h'.2 (inside_text 34 a l.1 h'.0 (x ++ z ∷ y) l.2 h'.1) in
        string_stops p.inside r.0 r.1 p.others p.elements (ap (λ l. 34 ∷ l) (sym r.2) ∙ p.text)
    by kind.End h' = h'

-- ---- the longest token

longer_front : (a x b y : Bytes) → a ++ x ≡ b ++ y → length a < length b → (c : ℕ) × (more : Bytes) × (b ≡ a ++ c ∷ more) × (x ≡ c ∷ more ++ y)
longer_front [] x [] y e h = absurd (omega arith)
longer_front [] x (c ∷ b) y e h = (c, b, refl, e)
longer_front (d ∷ a) x [] y e h = absurd (omega arith)
longer_front (d ∷ a) x (c ∷ b) y e h =
    let t : a ++ x ≡ b ++ y = cc in
    let i : c ≡ d = cc in
    let r = longer_front a x b y t (omega arith) in
    (r.0, r.1, ap (λ l. c ∷ l) r.2 ∙ ap (λ n. n ∷ a ++ r.0 ∷ r.1) i, r.3)

shorter_front : (a x b y : Bytes) → a ++ x ≡ b ++ y → length b ≤ length a → (w : Bytes) × (a ≡ b ++ w)
shorter_front a x [] y e h = (a, refl)
shorter_front [] x (c ∷ b) y e h = absurd (omega arith)
shorter_front (d ∷ a) x (c ∷ b) y e h =
    let t : a ++ x ≡ b ++ y = cc in
    let i : d ≡ c = cc in
    let r = shorter_front a x b y t (omega arith) in
    (r.0, ap (λ l. d ∷ l) r.1 ∙ ap (λ n. n ∷ b ++ r.0) i)

pub still_longest : (z : ℕ) → EndsTokens z → (names : List Bytes) (k : TokenKind) (piece rest y : Bytes) → Spells names k piece → IsLongest (piece ++ rest) piece → IsLongest (piece ++ (rest ++ z ∷ y)) piece
still_longest z ends names k piece rest y h l longer others e t = go (nat_lt (length (piece ++ rest)) (length longer)) refl
  where
    whole : (piece ++ rest) ++ z ∷ y ≡ longer ++ others
    whole = append_assoc piece rest (z ∷ y) ∙ e

    over : (c : ℕ) (more : Bytes) → longer ≡ (piece ++ rest) ++ c ∷ more → z ∷ y ≡ c ∷ more ++ others → ⊥
    over c more f g =
        let i : c ≡ z = cc in
        let text : longer ≡ piece ++ (rest ++ z ∷ more) = f ∙ ap (λ b. (piece ++ rest) ++ b ∷ more) i ∙ append_assoc piece rest (z ∷ more) in
        no_token_over z ends names t.names k t.kind piece rest more h (subst (λ l. Spells t.names t.kind l) text t.spelled)

    go : (b : Bool) → nat_lt (length (piece ++ rest)) (length longer) ≡ b → length longer ≤ length piece
    go true f =
        let n : length (piece ++ rest) < length longer = grind (arith, nat_tests) in
        let r = longer_front (piece ++ rest) (z ∷ y) longer others whole n in absurd (over r.0 r.1 r.2 r.3)
    go false f =
        let n : length longer ≤ length (piece ++ rest) = grind (arith, nat_tests) in
        let r = shorter_front (piece ++ rest) (z ∷ y) longer others whole n in
        l longer r.0 r.1 t

-- a token at the end of a text, or before such a byte, is the longest
pub longest_alone : (piece : Bytes) → IsLongest (piece ++ []) piece
longest_alone piece longer rest e t =
    let l = ap length e in
    omega (arith, l, length-append piece [], length-append longer rest)

pub longest_before : (z : ℕ) → EndsTokens z → (names : List Bytes) (k : TokenKind) (piece y : Bytes) → Spells names k piece → IsLongest (piece ++ z ∷ y) piece
longest_before z ends names k piece y h = still_longest z ends names k piece [] y h (longest_alone piece)
