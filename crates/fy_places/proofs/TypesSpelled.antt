-- The productions of types: their pieces, one behind the other, are the type.
use Rattle.std.proofs.Common.{List, [], arith, suc, ℕ, ◌∷◌, ◌≤◌}
use Rattle.fy_base.specs.declared.data.Place.{Place}
use Rattle.fy_lexer.specs.declared.token.Symbol.{Symbol}
use Rattle.fy_lexer.specs.declared.token.Symbol.TheVariants as symbol
use Rattle.fy_lexer.specs.declared.token.Token.{Token}
use Rattle.fy_lexer.specs.declared.token.TokenKind.TheVariants as kind
use Rattle.fy_syntax.specs.Signs.{TypeLevel, front, symbol_at}
use Rattle.fy_syntax.specs.Spells.{MoreTypes, SpellsType}
use Rattle.fy_syntax.proofs.TypesComplete.{field_below, meet_below}
use Rattle.fy_places.proofs.Pieces.{Piece, SpellsPiece, SpellsPieces}

pub more_types_spelled : (s : Symbol) (level : TypeLevel) (depth : ℕ) (whole rest : List Token) → SpellsPieces (Piece.sign (kind.Sym s) ∷ Piece.type level ∷ Piece.types s level ∷ []) depth whole rest → SpellsPiece (Piece.types s level) depth whole rest
more_types_spelled s level depth whole rest (SpellsPieces.also SpellsPiece.a_sign (SpellsPieces.also (SpellsPiece.a_type x h) (SpellsPieces.also (SpellsPiece.more_types y k) SpellsPieces.nothing))) = SpellsPiece.more_types (MoreTypes.and_type x y) (omega arith)

pub inter_spelled : (depth : ℕ) (whole rest : List Token) → SpellsPieces (Piece.type TypeLevel.field ∷ Piece.types symbol.Ampersand TypeLevel.field ∷ []) depth whole rest → SpellsPiece (Piece.type TypeLevel.inter) depth whole rest
inter_spelled depth whole rest (SpellsPieces.also (SpellsPiece.a_type {a = a} x h) (SpellsPieces.also (SpellsPiece.more_types {more = more} y k) SpellsPieces.nothing)) = SpellsPiece.a_type (SpellsType.inter x y) (rw (meet_below a more (front whole)) (omega arith))

pub field_spelled : (depth : ℕ) (whole rest : List Token) → SpellsPieces (Piece.fields ∷ Piece.type TypeLevel.primary ∷ []) depth whole rest → SpellsPiece (Piece.type TypeLevel.field) depth whole rest
field_spelled depth whole rest (SpellsPieces.also (SpellsPiece.some_fields {names = names} x) (SpellsPieces.also (SpellsPiece.a_type {a = a} y k) SpellsPieces.nothing)) = SpellsPiece.a_type (SpellsType.field x y) (rw (field_below names a (front whole)) k)

pub type_spelled : (depth : ℕ) (whole rest : List Token) → SpellsPieces (Piece.type TypeLevel.inter ∷ Piece.arrow_tail ∷ []) depth whole rest → SpellsPiece (Piece.type TypeLevel.type) depth whole rest
type_spelled depth whole rest (SpellsPieces.also (SpellsPiece.a_type x h) (SpellsPieces.also SpellsPiece.no_arrow SpellsPieces.nothing)) = SpellsPiece.a_type (SpellsType.no_arrow x) h
type_spelled depth whole rest (SpellsPieces.also (SpellsPiece.a_type x h) (SpellsPieces.also (SpellsPiece.an_arrow y k) SpellsPieces.nothing)) = SpellsPiece.a_type (SpellsType.arrow x y) (omega arith)

pub arrow_tail_spelled : (depth less : ℕ) (at : Place) → suc less ≤ depth → (whole rest : List Token) → SpellsPiece (Piece.type TypeLevel.type) less whole rest → SpellsPiece Piece.arrow_tail depth (symbol_at symbol.Arrow at ∷ whole) rest
arrow_tail_spelled depth less at le whole rest (SpellsPiece.a_type x h) = SpellsPiece.an_arrow x (omega arith)

pub group_spelled : (depth less : ℕ) (at : Place) → suc less ≤ depth → (whole rest : List Token) → SpellsPieces (Piece.type TypeLevel.type ∷ Piece.sign (kind.Sym symbol.CloseParen) ∷ []) less whole rest →
    SpellsPiece (Piece.type TypeLevel.primary) depth (symbol_at symbol.OpenParen at ∷ whole) rest
group_spelled depth less at le whole rest (SpellsPieces.also (SpellsPiece.a_type x h) (SpellsPieces.also SpellsPiece.a_sign SpellsPieces.nothing)) = SpellsPiece.a_type (SpellsType.group x) (omega arith)
