-- The header of a unit's source: what stands before the first `==`. It names the unit's imports and the unit itself, each with its type.
use Rattle.std.specs.Prelude.{ℕ, ◌-◌, ◌+◌, Bool, true, not, ◌&&◌, ◌||◌, if◌then◌else◌, is_none, option_map, List, [], ◌∷◌, ◌++◌, length, map, take, drop, Option, Some, None}
use Rattle.std.specs.List.{flat_map, list_any, position, slice_split}
use Rattle.fy_base.specs.declared.data.Place.{Place}
use Rattle.fy_lexer.specs.declared.token.Token.{Token}
use Rattle.fy_lexer.specs.declared.token.TokenKind.{TokenKind}
use Rattle.fy_lexer.specs.declared.token.TokenKind.TheVariants as kind
use Rattle.fy_lexer.specs.declared.token.Keyword.TheVariants as word
use Rattle.fy_lexer.specs.declared.token.Symbol.{Symbol}
use Rattle.fy_lexer.specs.declared.token.Symbol.TheVariants as symbol
use Rattle.fy_syntax.specs.Reader.{is_symbol_kind}
use Rattle.fy_syntax.specs.Signs.{token, word_at, symbol_at, ident_at, front}
use Rattle.fy_expand.specs.Faults.{is_among}
use Rattle.fy_expand.specs.Scope.{program_scope}

-- whether the token is this symbol
abbrev pub is_sign : Symbol → Token → Bool
is_sign s t = is_symbol_kind s t.kind

-- a piece of the header: `ident ":"`, and the tokens of a type
pub record PlainPiece : Type 0 where
  pub name : ℕ
  pub at : Place
  pub colon_at : Place
  pub type : List Token

-- the piece that begins with these two tokens, of which the second is a colon or isn't
abbrev pub piece_from : TokenKind → Bool → Place → Place → List Token → Option PlainPiece
piece_from (kind.Ident n) true p q type = Some (record { name = n; at = p; colon_at = q; type = type })
piece_from k is_colon p q type = None

abbrev pub piece_of : List Token → Option PlainPiece
piece_of (t ∷ u ∷ type) = piece_from t.kind (is_sign symbol.Colon u) t.place u.place type
piece_of tokens = None

abbrev pub before_others : Option PlainPiece → Option (List PlainPiece) → Option (List PlainPiece)
before_others (Some x) (Some more) = Some (x ∷ more)
before_others first others = None

-- the pieces that these parts of the tokens are, if each is one
abbrev pub pieces_of : List (List Token) → Option (List PlainPiece)
pieces_of [] = Some []
pieces_of (part ∷ parts) = before_others (piece_of part) (pieces_of parts)

-- a name of the prelude
abbrev pub is_provided : ℕ → Bool
is_provided name = not (is_none (program_scope.phrases name))

-- each name is there once, and none is the prelude's
abbrev pub are_free : List ℕ → Bool
are_free [] = true
are_free (name ∷ names) = not (is_provided name) && (not (is_among names name) && are_free names)

-- `.` or `|`, which would end a type in an abstraction
abbrev pub ends_type : Token → Bool
ends_type t = is_sign symbol.Dot t || is_sign symbol.Bar t

-- the pieces of the imports in order, that of the unit itself, the place of the `==`, and the tokens behind it, of which the end is the last
pub record PlainHeader : Type 0 where
  pub imports : List PlainPiece
  pub own : PlainPiece
  pub equals_at : Place
  pub tail : List Token

-- the pieces but the last, and the last
abbrev pub last_apart : List PlainPiece → Option (List PlainPiece × PlainPiece)
last_apart [] = None
last_apart (x ∷ []) = Some ([], x)
last_apart (x ∷ y ∷ more) = option_map (λ (found : List PlainPiece × PlainPiece). (x ∷ found.0, found.1)) (last_apart (y ∷ more))

abbrev pub header_from : Option (List PlainPiece) → Place → List Token → Option PlainHeader
header_from None at tail = None
header_from (Some pieces) at tail =
    if are_free (map (λ (x : PlainPiece). x.name) pieces)
    then option_map (λ (found : List PlainPiece × PlainPiece). record { imports = found.0; own = found.1; equals_at = at; tail = tail }) (last_apart pieces)
    else None

-- the header whose `==` has that index among the tokens
abbrev pub header_at : Option ℕ → List Token → Option PlainHeader
header_at None tokens = None
header_at (Some k) tokens =
    if list_any ends_type (take k tokens) then None
    else header_from (pieces_of (slice_split (is_sign symbol.Comma) (take k tokens))) (front (drop k tokens)) (drop (k + 1) tokens)

-- the header: before the first `==`, pieces between commas, without `.` and `|`, each with a name of its own
abbrev pub header_of : List Token → Option PlainHeader
header_of tokens = header_at (position (is_sign symbol.EqualsEquals) tokens) tokens

-- all pieces, in order
abbrev pub pieces_in : PlainHeader → List PlainPiece
pieces_in header = header.imports ++ header.own ∷ []

-- the tokens behind the `==` without the end
abbrev pub inside : PlainHeader → List Token
inside header = take (length header.tail - 1) header.tail

-- `\ name : type .`, where an added token has that place
abbrev pub abstraction_over : Place → PlainPiece → List Token
abstraction_over at x =
    symbol_at symbol.Backslash at ∷ ident_at x.name x.at ∷ symbol_at symbol.Colon x.colon_at ∷ (x.type ++ symbol_at symbol.Dot at ∷ [])

-- a program that is judged for a piece: `\ name : type . skip`
abbrev pub type_program : Place → PlainPiece → List Token
type_program at x = abstraction_over at x ++ word_at word.Skip at ∷ token kind.End at ∷ []

-- a program that is judged for a unit: what stands behind the `==`, in parentheses inside an abstraction for each import, the first outermost
abbrev pub unit_program : Place → PlainHeader → List Token
unit_program at header =
    flat_map (abstraction_over at) header.imports
    ++ symbol_at symbol.OpenParen at ∷ (inside header ++ symbol_at symbol.CloseParen at ∷ token kind.End at ∷ [])
