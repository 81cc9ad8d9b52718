-- The productions of the forms that a word begins.
use Rattle.std.proofs.Common.{List, [], arith, suc, ℕ, ◌∷◌, ◌≤◌}
use Rattle.fy_base.specs.declared.data.Place.{Place}
use Rattle.fy_lexer.specs.declared.token.Keyword.TheVariants as word
use Rattle.fy_lexer.specs.declared.token.Symbol.TheVariants as symbol
use Rattle.fy_lexer.specs.declared.token.Token.{Token}
use Rattle.fy_lexer.specs.declared.token.TokenKind.TheVariants as kind
use Rattle.fy_syntax.specs.Signs.{Level, TypeLevel, symbol_at, word_at}
use Rattle.fy_syntax.specs.Spells.{SpellsBefore}
use Rattle.fy_syntax.proofs.Complete.{nested_depth}
use Rattle.fy_syntax.proofs.TypesComplete.{types_deeper}
use Rattle.fy_places.proofs.Pieces.{Piece, SpellsPiece, SpellsPieces}

pub lam_spelled : (at : Place) (depth less : ℕ) → suc less ≤ depth → (whole rest : List Token) → SpellsPieces (Piece.name ∷ Piece.sign (kind.Sym symbol.Colon) ∷ Piece.type TypeLevel.type ∷ Piece.types symbol.Bar TypeLevel.type ∷ Piece.sign (kind.Sym symbol.Dot) ∷ Piece.phrase Level.term ∷ []) less whole rest → SpellsPiece (Piece.phrase Level.term) depth (symbol_at symbol.Backslash at ∷ whole) rest
lam_spelled at depth less le whole rest (SpellsPieces.also SpellsPiece.a_name (SpellsPieces.also SpellsPiece.a_sign (SpellsPieces.also (SpellsPiece.a_type x h) (SpellsPieces.also (SpellsPiece.more_types {more = more} y k) (SpellsPieces.also SpellsPiece.a_sign (SpellsPieces.also (SpellsPiece.a_phrase {t = t} z j) SpellsPieces.nothing)))))) = SpellsPiece.a_phrase (SpellsBefore.lam x y z) (omega (arith, h, types_deeper more less k, nested_depth (suc less) Level.term t z j))

pub let_spelled : (at : Place) (depth less : ℕ) → suc less ≤ depth → (whole rest : List Token) → SpellsPieces (Piece.def ∷ Piece.defs ∷ Piece.sign (kind.Word word.In) ∷ Piece.phrase Level.term ∷ []) less whole rest → SpellsPiece (Piece.phrase Level.term) depth (word_at word.Let at ∷ whole) rest
let_spelled at depth less le whole rest (SpellsPieces.also (SpellsPiece.a_def x h) (SpellsPieces.also (SpellsPiece.more_defs y k) (SpellsPieces.also SpellsPiece.a_sign (SpellsPieces.also (SpellsPiece.a_phrase {t = t} z j) SpellsPieces.nothing)))) = SpellsPiece.a_phrase (SpellsBefore.let_in x y z) (omega (arith, h, k, nested_depth (suc less) Level.term t z j))

pub letrec_spelled : (at : Place) (depth less : ℕ) → suc less ≤ depth → (whole rest : List Token) → SpellsPieces (Piece.decl ∷ Piece.decls ∷ Piece.sign (kind.Word word.Where) ∷ Piece.def ∷ Piece.defs ∷ Piece.sign (kind.Word word.In) ∷ Piece.phrase Level.term ∷ []) less whole rest → SpellsPiece (Piece.phrase Level.term) depth (word_at word.Letrec at ∷ whole) rest
letrec_spelled at depth less le whole rest (SpellsPieces.also (SpellsPiece.a_decl x h) (SpellsPieces.also (SpellsPiece.more_decls y k) (SpellsPieces.also SpellsPiece.a_sign (SpellsPieces.also (SpellsPiece.a_def z j) (SpellsPieces.also (SpellsPiece.more_defs v n) (SpellsPieces.also SpellsPiece.a_sign (SpellsPieces.also (SpellsPiece.a_phrase {t = t} w o) SpellsPieces.nothing))))))) = SpellsPiece.a_phrase (SpellsBefore.letrec x y z v w) (omega (arith, h, k, j, n, nested_depth (suc less) Level.term t w o))

pub let_type_spelled : (at : Place) (depth less : ℕ) → suc less ≤ depth → (whole rest : List Token) → SpellsPieces (Piece.name ∷ Piece.sign (kind.Sym symbol.EqualsEquals) ∷ Piece.type TypeLevel.type ∷ Piece.sign (kind.Word word.In) ∷ Piece.phrase Level.term ∷ []) less whole rest → SpellsPiece (Piece.phrase Level.term) depth (word_at word.Lettype at ∷ whole) rest
let_type_spelled at depth less le whole rest (SpellsPieces.also SpellsPiece.a_name (SpellsPieces.also SpellsPiece.a_sign (SpellsPieces.also (SpellsPiece.a_type x h) (SpellsPieces.also SpellsPiece.a_sign (SpellsPieces.also (SpellsPiece.a_phrase {t = t} z j) SpellsPieces.nothing))))) = SpellsPiece.a_phrase (SpellsBefore.let_type x z) (omega (arith, h, nested_depth (suc less) Level.term t z j))

pub new_spelled : (at : Place) (depth less : ℕ) → suc less ≤ depth → (whole rest : List Token) → SpellsPieces (Piece.name ∷ Piece.sign (kind.Sym symbol.Colon) ∷ Piece.datum ∷ Piece.sign (kind.Sym symbol.ColonEquals) ∷ Piece.phrase Level.term ∷ Piece.sign (kind.Word word.In) ∷ Piece.phrase Level.term ∷ []) less whole rest → SpellsPiece (Piece.phrase Level.term) depth (word_at word.New at ∷ whole) rest
new_spelled at depth less le whole rest (SpellsPieces.also SpellsPiece.a_name (SpellsPieces.also SpellsPiece.a_sign (SpellsPieces.also (SpellsPiece.a_datum a c) (SpellsPieces.also SpellsPiece.a_sign (SpellsPieces.also (SpellsPiece.a_phrase {t = s} x h) (SpellsPieces.also SpellsPiece.a_sign (SpellsPieces.also (SpellsPiece.a_phrase {t = t} z j) SpellsPieces.nothing))))))) = SpellsPiece.a_phrase (SpellsBefore.new {a = a} c x z) (omega (arith, nested_depth (suc less) Level.term s x h, nested_depth (suc less) Level.term t z j))

pub escape_spelled : (at : Place) (depth less : ℕ) → suc less ≤ depth → (whole rest : List Token) → SpellsPieces (Piece.name ∷ Piece.sign (kind.Word word.In) ∷ Piece.phrase Level.term ∷ []) less whole rest → SpellsPiece (Piece.phrase Level.term) depth (word_at word.Escape at ∷ whole) rest
escape_spelled at depth less le whole rest (SpellsPieces.also SpellsPiece.a_name (SpellsPieces.also SpellsPiece.a_sign (SpellsPieces.also (SpellsPiece.a_phrase {t = t} z j) SpellsPieces.nothing))) = SpellsPiece.a_phrase (SpellsBefore.escape z) (omega (arith, nested_depth (suc less) Level.term t z j))

pub accept_spelled : (at : Place) (depth less : ℕ) → suc less ≤ depth → (whole rest : List Token) → SpellsPieces (Piece.name ∷ Piece.sign (kind.Sym symbol.Colon) ∷ Piece.datum ∷ Piece.sign (kind.Word word.In) ∷ Piece.phrase Level.term ∷ []) less whole rest → SpellsPiece (Piece.phrase Level.term) depth (word_at word.Accept at ∷ whole) rest
accept_spelled at depth less le whole rest (SpellsPieces.also SpellsPiece.a_name (SpellsPieces.also SpellsPiece.a_sign (SpellsPieces.also (SpellsPiece.a_datum a c) (SpellsPieces.also SpellsPiece.a_sign (SpellsPieces.also (SpellsPiece.a_phrase {t = t} z j) SpellsPieces.nothing))))) = SpellsPiece.a_phrase (SpellsBefore.accept {a = a} c z) (omega (arith, nested_depth (suc less) Level.term t z j))

pub cond_spelled : (at : Place) (depth less : ℕ) → suc less ≤ depth → (whole rest : List Token) → SpellsPieces (Piece.phrase Level.term ∷ Piece.sign (kind.Word word.Then) ∷ Piece.phrase Level.term ∷ Piece.sign (kind.Word word.Else) ∷ Piece.phrase Level.term ∷ []) less whole rest → SpellsPiece (Piece.phrase Level.term) depth (word_at word.If at ∷ whole) rest
cond_spelled at depth less le whole rest (SpellsPieces.also (SpellsPiece.a_phrase {t = s} x h) (SpellsPieces.also SpellsPiece.a_sign (SpellsPieces.also (SpellsPiece.a_phrase {t = u} y k) (SpellsPieces.also SpellsPiece.a_sign (SpellsPieces.also (SpellsPiece.a_phrase {t = t} z j) SpellsPieces.nothing))))) = SpellsPiece.a_phrase (SpellsBefore.cond x y z) (omega (arith, nested_depth (suc less) Level.term s x h, nested_depth (suc less) Level.term u y k, nested_depth (suc less) Level.term t z j))

pub while_spelled : (at : Place) (depth less : ℕ) → suc less ≤ depth → (whole rest : List Token) → SpellsPieces (Piece.phrase Level.term ∷ Piece.sign (kind.Word word.Do) ∷ Piece.phrase Level.term ∷ []) less whole rest → SpellsPiece (Piece.phrase Level.term) depth (word_at word.While at ∷ whole) rest
while_spelled at depth less le whole rest (SpellsPieces.also (SpellsPiece.a_phrase {t = s} x h) (SpellsPieces.also SpellsPiece.a_sign (SpellsPieces.also (SpellsPiece.a_phrase {t = t} z j) SpellsPieces.nothing))) = SpellsPiece.a_phrase (SpellsBefore.while_do x z) (omega (arith, nested_depth (suc less) Level.term s x h, nested_depth (suc less) Level.term t z j))

pub loop_spelled : (at : Place) (depth less : ℕ) → suc less ≤ depth → (whole rest : List Token) → SpellsPieces (Piece.phrase Level.term ∷ []) less whole rest → SpellsPiece (Piece.phrase Level.term) depth (word_at word.Loop at ∷ whole) rest
loop_spelled at depth less le whole rest (SpellsPieces.also (SpellsPiece.a_phrase {t = t} z j) SpellsPieces.nothing) = SpellsPiece.a_phrase (SpellsBefore.loop z) (omega (arith, nested_depth (suc less) Level.term t z j))
