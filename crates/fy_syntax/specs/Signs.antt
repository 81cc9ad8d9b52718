-- Tokens in their places, and the words and symbols of operators and types.
use Rattle.std.specs.Prelude.{ℕ, Bool, true, false, List, [], ◌∷◌}
use Rattle.fy_base.specs.declared.data.Place.{Place}
use Rattle.fy_base.specs.Places.{first_place}
use Rattle.fy_base.specs.declared.data.BinOp.{BinOp}
use Rattle.fy_base.specs.declared.data.BinOp.TheVariants as op
use Rattle.fy_base.specs.declared.data.UnOp.{UnOp}
use Rattle.fy_base.specs.declared.data.UnOp.TheVariants as unary
use Rattle.fy_types.specs.declared.types.Atom.{Atom}
use Rattle.fy_types.specs.declared.types.Atom.TheVariants as atom
use Rattle.fy_lexer.specs.declared.token.Token.{Token}
use Rattle.fy_lexer.specs.declared.token.TokenKind.{TokenKind}
use Rattle.fy_lexer.specs.declared.token.TokenKind.TheVariants as kind
use Rattle.fy_lexer.specs.declared.token.Keyword.{Keyword}
use Rattle.fy_lexer.specs.declared.token.Keyword.TheVariants as word
use Rattle.fy_lexer.specs.declared.token.Symbol.{Symbol}
use Rattle.fy_lexer.specs.declared.token.Symbol.TheVariants as symbol

-- a token of a kind in its place
abbrev pub token : TokenKind → Place → Token
token k at = record { kind = k; place = at }

abbrev pub word_at : Keyword → Place → Token
word_at w at = token (kind.Word w) at

abbrev pub symbol_at : Symbol → Place → Token
symbol_at s at = token (kind.Sym s) at

abbrev pub ident_at : ℕ → Place → Token
ident_at name at = token (kind.Ident name) at

-- the place of the first token, or any where there is none
abbrev pub front : List Token → Place
front [] = first_place
front (t ∷ ts) = t.place

-- the levels of the grammar, from the one that binds least
pub data Level : Type 0 where
  phrase : Level
  sequence : Level
  term : Level
  either : Level
  both : Level
  relation : Level
  sum : Level
  product : Level
  prefixed : Level
  apply : Level
  select : Level
  primary : Level

-- the levels of types
pub data TypeLevel : Type 0 where
  type : TypeLevel
  inter : TypeLevel
  field : TypeLevel
  primary : TypeLevel

-- how an operator between two operands is written
abbrev pub operator_sign : BinOp → TokenKind
operator_sign op.Or = kind.Word word.Or
operator_sign op.And = kind.Word word.And
operator_sign op.Eq = kind.Sym symbol.Equals
operator_sign op.Ne = kind.Sym symbol.LessGreater
operator_sign op.Lt = kind.Sym symbol.Less
operator_sign op.Le = kind.Sym symbol.LessEquals
operator_sign op.Gt = kind.Sym symbol.Greater
operator_sign op.Ge = kind.Sym symbol.GreaterEquals
operator_sign op.Add = kind.Sym symbol.Plus
operator_sign op.Sub = kind.Sym symbol.Minus
operator_sign op.Mul = kind.Sym symbol.Star
operator_sign op.Div = kind.Word word.Div
operator_sign op.Rem = kind.Word word.Rem

-- the level whose operator it is
abbrev pub operator_level : BinOp → Level
operator_level op.Or = Level.either
operator_level op.And = Level.both
operator_level op.Eq = Level.relation
operator_level op.Ne = Level.relation
operator_level op.Lt = Level.relation
operator_level op.Le = Level.relation
operator_level op.Gt = Level.relation
operator_level op.Ge = Level.relation
operator_level op.Add = Level.sum
operator_level op.Sub = Level.sum
operator_level op.Mul = Level.product
operator_level op.Div = Level.product
operator_level op.Rem = Level.product

-- how an operator in front of its operand is written
abbrev pub prefix_sign : UnOp → TokenKind
prefix_sign unary.Neg = kind.Sym symbol.Minus
prefix_sign unary.Not = kind.Word word.Not
prefix_sign unary.Ord = kind.Word word.Ord
prefix_sign unary.Chr = kind.Word word.Chr

-- how a type without parts is written
abbrev pub atom_word : Atom → Keyword
atom_word atom.Int = word.Int
atom_word atom.Bool = word.Bool
atom_word atom.Char = word.Char
atom_word atom.Comm = word.Comm
atom_word atom.Compl = word.Compl
atom_word atom.IntAcc = word.IntAcc
atom_word atom.BoolAcc = word.BoolAcc
atom_word atom.CharAcc = word.CharAcc

-- whether it is a type of data: `int`, `bool` or `char`
abbrev pub is_data : Atom → Bool
is_data atom.Int = true
is_data atom.Bool = true
is_data atom.Char = true
is_data _ = false

-- how a truth value is written
abbrev pub truth_word : Bool → Keyword
truth_word true = word.True
truth_word false = word.False
