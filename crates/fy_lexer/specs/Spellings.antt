-- What the bytes of a token spell.
use Rattle.std.specs.Prelude.{◌≡◌, ℕ, ◌+◌, ◌-◌, ◌*◌, Bool, false, not, ◌&&◌, ◌||◌, nat_le, ◌==◌, if◌then◌else◌, IsTrue, pos, List, [], ◌∷◌, ◌++◌, codes, fold, Option, Some, None}
use Rattle.std.specs.List.{list_all}
use Rattle.std.specs.Map.{lookup}
use Rattle.std.specs.Str.{bytes_eq}
use Rattle.fy_base.specs.Outside.{Bytes}
use Rattle.fy_types.specs.Names.{number_of}
use Rattle.fy_types.specs.Words.{is_digit, is_identifier}
use Rattle.fy_lexer.specs.declared.token.TokenKind.{TokenKind}
use Rattle.fy_lexer.specs.declared.token.TokenKind.TheVariants.{Ident, Number, Letter, Str, Word, Sym, End}
use Rattle.fy_lexer.specs.declared.token.Keyword.{Keyword}
use Rattle.fy_lexer.specs.declared.token.Keyword.TheVariants as word
use Rattle.fy_lexer.specs.declared.token.Symbol.{Symbol}
use Rattle.fy_lexer.specs.declared.token.Symbol.TheVariants as symbol

-- the words and their spellings
unfoldable pub keywords : List (Bytes × Keyword)
keywords =
    (codes "let", word.Let)
    ∷ (codes "letrec", word.Letrec)
    ∷ (codes "lettype", word.Lettype)
    ∷ (codes "where", word.Where)
    ∷ (codes "in", word.In)
    ∷ (codes "new", word.New)
    ∷ (codes "escape", word.Escape)
    ∷ (codes "accept", word.Accept)
    ∷ (codes "if", word.If)
    ∷ (codes "then", word.Then)
    ∷ (codes "else", word.Else)
    ∷ (codes "while", word.While)
    ∷ (codes "do", word.Do)
    ∷ (codes "loop", word.Loop)
    ∷ (codes "seq", word.Seq)
    ∷ (codes "skip", word.Skip)
    ∷ (codes "true", word.True)
    ∷ (codes "false", word.False)
    ∷ (codes "and", word.And)
    ∷ (codes "or", word.Or)
    ∷ (codes "not", word.Not)
    ∷ (codes "ord", word.Ord)
    ∷ (codes "chr", word.Chr)
    ∷ (codes "div", word.Div)
    ∷ (codes "rem", word.Rem)
    ∷ (codes "ns", word.Ns)
    ∷ (codes "int", word.Int)
    ∷ (codes "bool", word.Bool)
    ∷ (codes "char", word.Char)
    ∷ (codes "comm", word.Comm)
    ∷ (codes "compl", word.Compl)
    ∷ (codes "intacc", word.IntAcc)
    ∷ (codes "boolacc", word.BoolAcc)
    ∷ (codes "characc", word.CharAcc)
    ∷ []

-- the symbols and their spellings
unfoldable pub symbols : List (Bytes × Symbol)
symbols =
    (codes "(", symbol.OpenParen)
    ∷ (codes ")", symbol.CloseParen)
    ∷ (codes ",", symbol.Comma)
    ∷ (codes ";", symbol.Semicolon)
    ∷ (codes ":", symbol.Colon)
    ∷ (codes ":=", symbol.ColonEquals)
    ∷ (codes "==", symbol.EqualsEquals)
    ∷ (codes "=", symbol.Equals)
    ∷ (codes "<>", symbol.LessGreater)
    ∷ (codes "<", symbol.Less)
    ∷ (codes "<=", symbol.LessEquals)
    ∷ (codes ">", symbol.Greater)
    ∷ (codes ">=", symbol.GreaterEquals)
    ∷ (codes "+", symbol.Plus)
    ∷ (codes "-", symbol.Minus)
    ∷ (codes "*", symbol.Star)
    ∷ (codes ".", symbol.Dot)
    ∷ (codes "->", symbol.Arrow)
    ∷ (codes "&", symbol.Ampersand)
    ∷ (codes "|", symbol.Bar)
    ∷ (codes "\\", symbol.Backslash)
    ∷ []

-- the word, or the symbol, that these bytes spell
abbrev pub keyword_of : Bytes → Option Keyword
keyword_of piece = lookup (bytes_eq piece) keywords

abbrev pub symbol_of : Bytes → Option Symbol
symbol_of piece = lookup (bytes_eq piece) symbols

-- a number: one or more digits
abbrev pub is_numeral : Bytes → Bool
is_numeral [] = false
is_numeral (b ∷ bytes) = list_all is_digit (b ∷ bytes)

-- the value of digits
abbrev pub decimal : Bytes → ℕ
decimal digits = fold (λ value digit. 10 * value + (digit - 48)) 0 digits

-- a byte that stands for itself between quotes: 32 to 126 or 128 to 255, but neither this quote nor \
abbrev pub is_plain : ℕ → ℕ → Bool
is_plain quote b = ((nat_le 32 b && nat_le b 126) || (nat_le 128 b && nat_le b 255)) && (not (b == quote) && not (b == 92))

-- what stands for a byte behind \: n, t, \, ' and "
abbrev pub escaped : ℕ → Option ℕ
escaped c =
    if c == 110 then Some 10 else
    if c == 116 then Some 9 else
    if c == 92 then Some 92 else
    if c == 39 then Some 39 else
    if c == 34 then Some 34 else None

-- the value of a hexadecimal digit: 0 to 9, A to F, a to f
abbrev pub hex_value : ℕ → Option ℕ
hex_value b =
    if is_digit b then Some (b - 48) else
    if nat_le 65 b && nat_le b 70 then Some (b - 55) else
    if nat_le 97 b && nat_le b 102 then Some (b - 87) else None

-- an element between these quotes, and the byte that it stands for: itself, an escape, or \x and two digits
pub data Element (quote : ℕ) (piece : Bytes) (value : ℕ) : Type 0 where
  plain : piece ≡ value ∷ [] → IsTrue (is_plain quote value) → Element quote piece value
  escape : (c : ℕ) → piece ≡ 92 ∷ c ∷ [] → escaped c ≡ Some value → Element quote piece value
  code : (h l m n : ℕ) → piece ≡ 92 ∷ 120 ∷ h ∷ l ∷ [] → hex_value h ≡ Some m → hex_value l ≡ Some n → value ≡ 16 * m + n → Element quote piece value

-- elements end to end, and the bytes that they stand for
abbrev pub Elements : ℕ → Bytes → Bytes → Type 0
Elements quote inside [] = inside ≡ []
Elements quote inside (value ∷ values) = (first : Bytes) × (more : Bytes) × (inside ≡ first ++ more) × Element quote first value × Elements quote more values

-- the bytes spell a token of this kind, where names are numbered by this list
abbrev pub Spells : List Bytes → TokenKind → Bytes → Type 0
Spells names (Ident name) piece = IsTrue (is_identifier piece) × (name ≡ number_of names piece)
Spells names (Word keyword) piece = keyword_of piece ≡ Some keyword
Spells names (Number n) piece = IsTrue (is_numeral piece) × (n ≡ pos (decimal piece))
Spells names (Letter value) piece = (inside : Bytes) × (piece ≡ 39 ∷ inside ++ 39 ∷ []) × Element 39 inside value
Spells names (Str values) piece = (inside : Bytes) × (piece ≡ 34 ∷ inside ++ 34 ∷ []) × Elements 34 inside values
Spells names (Sym symbol) piece = symbol_of piece ≡ Some symbol
Spells names End piece = ⊥
