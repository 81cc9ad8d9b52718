-- Texts that are shown, read again.
use Rattle.std.specs.Prelude.{◌≡◌, ◌<◌, ◌≤ℤ◌, pos, List, [], ◌∷◌, FitsSigned}
use Rattle.std.specs.Int.{w64}
use Rattle.fy_base.specs.Outside.{Bytes}
use Rattle.fy_base.specs.declared.data.Datum.{Datum}
use Rattle.fy_base.specs.declared.data.Datum.TheVariants as datum
use Rattle.fy_base.specs.declared.data.Place.{Place}
use Rattle.fy_types.specs.Fields.{AllFields, HasFullMeets}
use Rattle.fy_types.specs.Names.{AreNames}
use Rattle.fy_types.specs.Types.{PlainType}
use Rattle.fy_lexer.specs.declared.token.Token.{Token}
use Rattle.fy_lexer.specs.declared.token.TokenKind.TheVariants as kind
use Rattle.fy_lexer.specs.Tokens.{IsTokensOf}
use Rattle.fy_syntax.specs.Trees.{TypeTree, Tree}
use Rattle.fy_syntax.specs.Signs.{Level, TypeLevel, token}
use Rattle.fy_syntax.specs.Spells.{SpellsType, SpellsBefore}
use Rattle.fy_syntax.specs.Printing.{IsIdentifierNumber}
use Rattle.fy_syntax.specs.Ranges.{AreBytes}
use Rattle.fy_phrase.specs.Tree.{lit}
use Rattle.fy_expand.specs.Core.{core}
use Rattle.fy_expand.specs.Scope.{Scope}
use Rattle.fy_expand.specs.Types.{type_of, predefined}
use Rattle.fy_short.specs.DataTexts.{datum_text, string_text}
use Rattle.fy_short.specs.ShortTypes.{short_type}

-- the text is tokens of the list of names, which spell a type, and then comes the end; with the predefined names it means that type
pub record IsReadAs (names : List Bytes) (text : Bytes) (A : PlainType) : Type 0 where
  pub tokens : List Token
  pub read : IsTokensOf names text tokens names
  pub tree : TypeTree
  pub at : Place
  pub spelled : SpellsType TypeLevel.type tree tokens (token kind.End at ∷ [])
  pub means : type_of predefined tree ≡ A

-- the short text of a type is read again as that type
abbrev pub ShortTypesAreReadAgain : Type 0
ShortTypesAreReadAgain =
    (names : List Bytes) (A : PlainType) → AreNames names → HasFullMeets A → AllFields (IsIdentifierNumber names) A → IsReadAs names (short_type names A) A

-- a datum that a literal spells: an integer from 0 on, a truth value, a byte
abbrev pub IsLiteral : Datum → Type 0
IsLiteral (datum.Int z) = (pos 0 ≤ℤ z) × FitsSigned w64 z
IsLiteral (datum.Bool b) = Unit {0}
IsLiteral (datum.Char c) = c < 256

-- the text is tokens that spell a primary, and then comes the end; in any scope it means that literal
pub record IsReadAsDatum (names : List Bytes) (text : Bytes) (v : Datum) : Type 0 where
  pub tokens : List Token
  pub read : IsTokensOf names text tokens names
  pub tree : Tree
  pub at : Place
  pub spelled : SpellsBefore Level.primary tree tokens (token kind.End at ∷ [])
  pub place : Place
  pub means : (s : Scope) → core s tree ≡ lit v place

-- the text is the token of a string with these characters, and then comes the end
pub record IsReadAsString (names : List Bytes) (text bytes : Bytes) : Type 0 where
  pub tokens : List Token
  pub read : IsTokensOf names text tokens names
  pub place : Place
  pub at : Place
  pub spelled : SpellsBefore Level.primary (Tree.string bytes place) tokens (token kind.End at ∷ [])

abbrev pub ShortDataAreReadAgain : Type 0
ShortDataAreReadAgain = (names : List Bytes) (v : Datum) → IsLiteral v → IsReadAsDatum names (datum_text v) v

abbrev pub ShortStringsAreReadAgain : Type 0
ShortStringsAreReadAgain = (names : List Bytes) (bytes : Bytes) → AreBytes bytes → IsReadAsString names (string_text bytes) bytes
