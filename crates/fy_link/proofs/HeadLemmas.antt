-- Headers, step by step.
use Rattle.std.proofs.Common.{◌≡◌, ℕ, ◌+◌, ◌-◌, ◌<◌, zero, suc, List, [], ◌∷◌, ◌++◌, take, drop, map, length, get_or, Bool, true, false, refl, sym, ap, ◌∙◌, arith}
use Rattle.std.specs.Prelude.{Option, Some, None, option_map, if◌then◌else◌}
use Rattle.std.specs.List.{slice_split, position, list_any}
use Rattle.std.proofs.lemmas.List.{take_rest}
use Rattle.std.proofs.lemmas.List.Quantifiers.{position-Some}
use Rattle.fy_base.specs.declared.data.Place.{Place}
use Rattle.fy_lexer.specs.declared.token.Token.{Token}
use Rattle.fy_lexer.specs.declared.token.Symbol.TheVariants as symbol
use Rattle.fy_syntax.specs.Signs.{front}
use Rattle.fy_link.specs.declared.header.Piece.{Piece}
use Rattle.fy_link.specs.Header.{PlainPiece, PlainHeader, is_sign, pieces_of, are_free, ends_type, last_apart, header_from, header_at, header_of}
use Rattle.fy_link.specs.Read.{plain_piece}
use Rattle.fy_link.proofs.PieceLemmas.{last_apart-push}

abbrev pub equals_of : List Token → Option ℕ
equals_of tokens = position (is_sign symbol.EqualsEquals) tokens

-- the pieces before an index
abbrev pub pieces_before : ℕ → List Token → Option (List PlainPiece)
pieces_before k tokens = pieces_of (slice_split (is_sign symbol.Comma) (take k tokens))

abbrev pub names_in : List PlainPiece → List ℕ
names_in xs = map (λ (x : PlainPiece). x.name) xs

pub header-without : (tokens : List Token) → None ≡ equals_of tokens → None ≡ header_of tokens
header-without tokens e = ap (λ o. header_at o tokens) e

abbrev from_tested : Bool → ℕ → List Token → Option PlainHeader
from_tested b k tokens = if b then None else header_from (pieces_before k tokens) (front (drop k tokens)) (drop (k + 1) tokens)

pub header-ended : (tokens : List Token) (k : ℕ) → Some k ≡ equals_of tokens → true ≡ list_any ends_type (take k tokens) → None ≡ header_of tokens
header-ended tokens k e h = ap (λ b. from_tested b k tokens) h ∙ ap (λ o. header_at o tokens) e

-- the header of so many pieces
pub header-cut-at : (tokens : List Token) (k : ℕ) → Some k ≡ equals_of tokens → false ≡ list_any ends_type (take k tokens) →
    header_from (pieces_before k tokens) (front (drop k tokens)) (drop (k + 1) tokens) ≡ header_of tokens
header-cut-at tokens k e h = ap (λ b. from_tested b k tokens) h ∙ ap (λ o. header_at o tokens) e

pub header-no-pieces : (tokens : List Token) (k : ℕ) → Some k ≡ equals_of tokens → false ≡ list_any ends_type (take k tokens) →
    None ≡ pieces_before k tokens → None ≡ header_of tokens
header-no-pieces tokens k e h p = ap (λ o. header_from o (front (drop k tokens)) (drop (k + 1) tokens)) p ∙ header-cut-at tokens k e h

pub header-pieces : (tokens : List Token) (k : ℕ) (xs : List PlainPiece) → Some k ≡ equals_of tokens → false ≡ list_any ends_type (take k tokens) →
    Some xs ≡ pieces_before k tokens → header_from (Some xs) (front (drop k tokens)) (drop (k + 1) tokens) ≡ header_of tokens
header-pieces tokens k xs e h p = ap (λ o. header_from o (front (drop k tokens)) (drop (k + 1) tokens)) p ∙ header-cut-at tokens k e h

abbrev header_apart : Place → List Token → Option (List PlainPiece × PlainPiece) → Option PlainHeader
header_apart at tail o = option_map (λ (found : List PlainPiece × PlainPiece). record { imports = found.0; own = found.1; equals_at = at; tail = tail }) o

abbrev header_tested : Bool → List PlainPiece → Place → List Token → Option PlainHeader
header_tested b xs at tail = if b then header_apart at tail (last_apart xs) else None

-- pieces that aren't free
pub taken-pieces : (xs : List PlainPiece) (at : Place) (tail : List Token) → false ≡ are_free (names_in xs) → None ≡ header_from (Some xs) at tail
taken-pieces xs at tail h = ap (λ b. header_tested b xs at tail) h

pub no-pieces : (xs : List PlainPiece) (at : Place) (tail : List Token) → xs ≡ [] → None ≡ header_from (Some xs) at tail
no-pieces xs at tail e = ap (λ (ys : List PlainPiece). header_from (Some ys) at tail) (sym e)

pub free-pieces : (xs ys : List PlainPiece) (x : PlainPiece) (at : Place) (tail : List Token) → true ≡ are_free (names_in xs) → xs ≡ ys ++ x ∷ [] →
    Some (record { imports = ys; own = x; equals_at = at; tail = tail }) ≡ header_from (Some xs) at tail
free-pieces xs ys x at tail h e =
    sym (ap (header_apart at tail) (ap last_apart e ∙ last_apart-push ys x)) ∙ ap (λ b. header_tested b xs at tail) h

pub front-drop : (ts : List Token) (d : Token) (k : ℕ) → k < length ts → front (drop k ts) ≡ (get_or ts k d).place
front-drop [] d k l = absurd (omega arith)
front-drop (t ∷ ts) d zero l = refl
front-drop (t ∷ ts) d (suc k) l = front-drop ts d k (omega arith)

pub plain-names : (xs : List Piece) → names_in (map plain_piece xs) ≡ map (λ (x : Piece). x.name) xs
plain-names [] = refl
plain-names (x ∷ xs) = ap (λ (ns : List ℕ). x.name ∷ ns) (plain-names xs)

-- pieces whose names aren't free
pub header-taken : (ts : List Token) (k : ℕ) (xs : List PlainPiece) → Some k ≡ equals_of ts → false ≡ list_any ends_type (take k ts) →
    Some xs ≡ pieces_before k ts → false ≡ are_free (names_in xs) → None ≡ header_of ts
header-taken ts k xs e h p f = taken-pieces xs (front (drop k ts)) (drop (k + 1) ts) f ∙ header-pieces ts k xs e h p

abbrev header_with : List PlainPiece → PlainPiece → Place → List Token → Option PlainHeader
header_with ys x at tail = Some (record { imports = ys; own = x; equals_at = at; tail = tail })

pub header-whole : (ts : List Token) (k : ℕ) (xs ys : List PlainPiece) (x : PlainPiece) (d : Token) → Some k ≡ equals_of ts → false ≡ list_any ends_type (take k ts) →
    Some xs ≡ pieces_before k ts → true ≡ are_free (names_in xs) → xs ≡ ys ++ x ∷ [] →
    Some (record { imports = ys; own = x; equals_at = (get_or ts k d).place; tail = take (length ts - (k + 1)) (drop (k + 1) ts) }) ≡ header_of ts
header-whole ts k xs ys x d e h p f is =
    let found = position-Some (is_sign symbol.EqualsEquals) ts k d (sym e) in
    ap (λ (at : Place). header_with ys x at (take (length ts - (k + 1)) (drop (k + 1) ts))) (sym (front-drop ts d k found.0))
    ∙ (ap (λ (tail : List Token). header_with ys x (front (drop k ts)) tail) (take_rest ts (k + 1))
    ∙ (free-pieces xs ys x (front (drop k ts)) (drop (k + 1) ts) f is ∙ header-pieces ts k xs e h p))
