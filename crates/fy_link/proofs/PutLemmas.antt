-- Tokens that are put one behind another.
use Rattle.std.proofs.Common.{◌≡◌, ℕ, ◌+◌, ◌<◌, List, [], ◌∷◌, ◌++◌, length, map, take, get_or, sym, ap, ◌∙◌}
use Rattle.std.specs.List.{flat_map}
use Rattle.std.proofs.lemmas.List.{append_assoc, take_more, map_more, flat_map_more}
use Rattle.fy_base.specs.declared.data.Place.{Place}
use Rattle.fy_lexer.specs.declared.token.Token.{Token}
use Rattle.fy_lexer.specs.declared.token.TokenKind.{TokenKind}
use Rattle.fy_lexer.specs.declared.token.TokenKind.TheVariants as kind
use Rattle.fy_lexer.specs.declared.token.Keyword.TheVariants as word
use Rattle.fy_lexer.specs.declared.token.Symbol.TheVariants as symbol
use Rattle.fy_syntax.specs.Signs.{token, word_at, symbol_at}
use Rattle.fy_link.specs.declared.header.Piece.{Piece}
use Rattle.fy_link.specs.Header.{PlainPiece, PlainHeader, abstraction_over, type_program, unit_program, inside}
use Rattle.fy_link.specs.Read.{plain_piece}

pub push-token : (made old tokens new : List Token) (i : ℕ) (t : Token) (k : TokenKind) → made ≡ old ++ take i tokens → i < length tokens → t ≡ get_or tokens i t →
    k ≡ t.kind → new ≡ made ++ token k t.place ∷ [] → new ≡ old ++ take (i + 1) tokens
push-token made old tokens new i t k before h e same put =
    let one : token k t.place ≡ get_or tokens i t = ap (λ x. token x t.place) same ∙ e in
    put
    ∙ (ap (λ (xs : List Token). xs ++ token k t.place ∷ []) before
    ∙ (append_assoc old (take i tokens) (token k t.place ∷ [])
    ∙ ap (λ (xs : List Token). old ++ xs) (ap (λ (x : Token). take i tokens ++ x ∷ []) one ∙ sym (take_more tokens i t h))))

-- abstractions over pieces, one behind another
abbrev pub abstractions : Place → List Piece → List Token
abstractions at pieces = flat_map (abstraction_over at) (map plain_piece pieces)

pub push-abstraction : (at : Place) (made old new : List Token) (pieces : List Piece) (i : ℕ) (x : Piece) → made ≡ old ++ abstractions at (take i pieces) → i < length pieces →
    x ≡ get_or pieces i x → new ≡ made ++ abstraction_over at (plain_piece x) → new ≡ old ++ abstractions at (take (i + 1) pieces)
push-abstraction at made old new pieces i x before h e put =
    put
    ∙ (ap (λ (xs : List Token). xs ++ abstraction_over at (plain_piece x)) before
    ∙ (flat_map_more (abstraction_over at) old (map plain_piece (take i pieces)) (plain_piece x)
    ∙ ap (λ (xs : List PlainPiece). old ++ flat_map (abstraction_over at) xs)
    (ap (λ (y : Piece). map plain_piece (take i pieces) ++ plain_piece y ∷ []) e ∙ sym (map_more plain_piece pieces i x h))))

five_on : (old type : List Token) (x y z d : Token) →
    ((((old ++ x ∷ []) ++ y ∷ []) ++ z ∷ []) ++ type) ++ d ∷ [] ≡ old ++ x ∷ y ∷ z ∷ (type ++ d ∷ [])
five_on old type x y z d = simp append_assoc

pub five-put : (old a b c e f type : List Token) (x y z d : Token) → a ≡ old ++ x ∷ [] → b ≡ a ++ y ∷ [] → c ≡ b ++ z ∷ [] → e ≡ c ++ type → f ≡ e ++ d ∷ [] →
    f ≡ old ++ x ∷ y ∷ z ∷ (type ++ d ∷ [])
five-put old a b c e f type x y z d p q r s t =
    t
    ∙ (ap (λ (xs : List Token). xs ++ d ∷ []) (s ∙ ap (λ (xs : List Token). xs ++ type) (r ∙ ap (λ (xs : List Token). xs ++ z ∷ []) (q ∙ ap (λ (xs : List Token). xs ++ y ∷ []) p)))
    ∙ five_on old type x y z d)

pub type_program-put : (at : Place) (x : PlainPiece) (a b c : List Token) → a ≡ [] ++ abstraction_over at x → b ≡ a ++ word_at word.Skip at ∷ [] → c ≡ b ++ token kind.End at ∷ [] →
    c ≡ type_program at x
type_program-put at x a b c p q r =
    r
    ∙ (ap (λ (xs : List Token). xs ++ token kind.End at ∷ []) (q ∙ ap (λ (xs : List Token). xs ++ word_at word.Skip at ∷ []) p)
    ∙ append_assoc (abstraction_over at x) (word_at word.Skip at ∷ []) (token kind.End at ∷ []))

four_on : (xs ys : List Token) (x y z : Token) → (((xs ++ x ∷ []) ++ ys) ++ y ∷ []) ++ z ∷ [] ≡ xs ++ x ∷ (ys ++ y ∷ z ∷ [])
four_on xs ys x y z = simp append_assoc

pub unit_program-put : (at : Place) (header : PlainHeader) (a b c d e : List Token) → a ≡ [] ++ flat_map (abstraction_over at) header.imports →
    b ≡ a ++ symbol_at symbol.OpenParen at ∷ [] → c ≡ b ++ inside header → d ≡ c ++ symbol_at symbol.CloseParen at ∷ [] → e ≡ d ++ token kind.End at ∷ [] →
    e ≡ unit_program at header
unit_program-put at header a b c d e p q r s t =
    t
    ∙ (ap (λ (xs : List Token). xs ++ token kind.End at ∷ [])
    (s ∙ ap (λ (xs : List Token). xs ++ symbol_at symbol.CloseParen at ∷ []) (r ∙ ap (λ (xs : List Token). xs ++ inside header) (q ∙ ap (λ (xs : List Token). xs ++ symbol_at symbol.OpenParen at ∷ []) p)))
    ∙ four_on (flat_map (abstraction_over at) header.imports) (inside header) (symbol_at symbol.OpenParen at) (symbol_at symbol.CloseParen at) (token kind.End at))
