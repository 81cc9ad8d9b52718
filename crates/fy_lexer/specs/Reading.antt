-- What the steps of reading do, one by one.
use Rattle.std.specs.Prelude.{◌≡◌, ℕ, ℤ, pos, ◌^◌, ◌<◌, Bool, not, ◌&&◌, ◌==◌, map, Some, None, slice_get, List, [], ◌∷◌, ◌++◌}
use Rattle.std.specs.Borrow.{Bor}
use Rattle.fy_base.specs.Outside.{Bytes}
use Rattle.fy_base.specs.declared.data.Place.{Place}
use Rattle.fy_types.specs.Words.{is_digit, is_letter, is_name_byte}
use Rattle.fy_lexer.specs.declared.error.LexError.{LexError}
use Rattle.fy_lexer.specs.declared.error.LexError.TheVariants.{BadByte, Unclosed, NumberTooLarge, TooManyTokens, OutOfMemory}
use Rattle.fy_lexer.specs.declared.reader.Class.{Class}
use Rattle.fy_lexer.specs.declared.reader.Class.TheVariants as class
use Rattle.fy_lexer.specs.declared.token.Token.{Token}
use Rattle.fy_lexer.specs.declared.token.TokenKind.{TokenKind}
use Rattle.fy_lexer.specs.Pieces.{is_blank, IsGap, IsLongest, IsBadAt, IsUnclosed, IsLargeNumber}
use Rattle.fy_lexer.specs.Spellings.{Element, Elements, Spells, hex_value}
use Rattle.fy_lexer.specs.Spot.{Spot, Moved, past}
use Rattle.fy_lexer.specs.Tokens.{Reading, names_past}

-- whether a byte goes on with a run of its class
abbrev pub passes : Class → ℕ → Bool
passes class.Name b = is_name_byte b
passes class.Digit b = is_digit b
passes class.Inside b = not (b == 125)

-- an element was taken
pub record TakesElement (quote : ℕ) (old : Spot) (value : ℕ) (new : Spot) : Type 0 where
  pub piece : Bytes
  pub element : Element quote piece value
  pub moved : Moved old piece new

-- these bytes begin an element
pub record BeginsElement (quote : ℕ) (part : Bytes) : Type 0 where
  pub more : Bytes
  pub value : ℕ
  pub element : Element quote (part ++ more) value

-- the byte behind these first ones is the first at which the text can't become an element
pub record IsMisfitBehind (quote : ℕ) (text part : Bytes) : Type 0 where
  pub bad : ℕ
  pub rest : Bytes
  pub is : text ≡ part ++ bad ∷ rest
  pub begins : BeginsElement quote part
  pub none : (other piece more : Bytes) (value : ℕ)
      → Element quote piece value → piece ++ more ≡ part ++ bad ∷ other → ⊥

-- the text ends within an element
pub record IsCut (quote : ℕ) (text : Bytes) : Type 0 where
  pub begins : BeginsElement quote text
  pub none : (piece more : Bytes) (value : ℕ) → Element quote piece value → piece ++ more ≡ text → ⊥

-- why there is no element here, in a literal that begins at a place
abbrev pub ElementFault : ℕ → Spot → Place → LexError → Type 0
ElementFault quote here start (BadByte place) = (part : Bytes) × IsMisfitBehind quote here.rest part × (place ≡ past here.place part)
ElementFault quote here start (Unclosed place) = IsCut quote here.rest × (place ≡ start)
ElementFault quote here start (NumberTooLarge place) = ⊥
ElementFault quote here start TooManyTokens = ⊥
ElementFault quote here start OutOfMemory = ⊥

-- what follows the byte \ was taken
pub record TakesEscape (quote : ℕ) (old : Spot) (value : ℕ) (new : Spot) : Type 0 where
  pub piece : Bytes
  pub element : Element quote (92 ∷ piece) value
  pub moved : Moved old piece new

-- why what follows the byte \ is no escape
abbrev pub EscapeFault : ℕ → Spot → Place → LexError → Type 0
EscapeFault quote here start (BadByte place) = (part : Bytes) × IsMisfitBehind quote (92 ∷ here.rest) (92 ∷ part) × (place ≡ past here.place part)
EscapeFault quote here start (Unclosed place) = IsCut quote (92 ∷ here.rest) × (place ≡ start)
EscapeFault quote here start (NumberTooLarge place) = ⊥
EscapeFault quote here start TooManyTokens = ⊥
EscapeFault quote here start OutOfMemory = ⊥

-- a hexadecimal digit was taken
pub record TakesDigit (old : Spot) (value : ℕ) (new : Spot) : Type 0 where
  pub digit : ℕ
  pub is : hex_value digit ≡ Some value
  pub moved : Moved old (digit ∷ []) new

-- why there is no hexadecimal digit here
abbrev pub DigitFault : Spot → Place → LexError → Type 0
DigitFault here start (BadByte place) = (bad : ℕ) × (rest : Bytes) × (here.rest ≡ bad ∷ rest) × (hex_value bad ≡ None) × (place ≡ here.place)
DigitFault here start (Unclosed place) = (here.rest ≡ []) × (place ≡ start)
DigitFault here start (NumberTooLarge place) = ⊥
DigitFault here start TooManyTokens = ⊥
DigitFault here start OutOfMemory = ⊥

-- elements were taken
pub record TakesElements (quote : ℕ) (old : Spot) (values : Bytes) (new : Spot) : Type 0 where
  pub inside : Bytes
  pub elements : Elements quote inside values
  pub moved : Moved old inside new

-- why the elements of a literal that begins at a place end in no quote: some elements, and then none
abbrev pub ElementsFault : ℕ → Spot → Place → LexError → Type 0
ElementsFault quote old start (BadByte place) =
    (now : Spot) × (values : Bytes) × TakesElements quote old values now
    × ElementFault quote now start (BadByte place) × ¬ (slice_get now.rest 0 ≡ Some quote)
ElementsFault quote old start (Unclosed place) =
    (now : Spot) × (values : Bytes) × TakesElements quote old values now × ElementFault quote now start (Unclosed place)
ElementsFault quote old start (NumberTooLarge place) = ⊥
ElementsFault quote old start TooManyTokens = ⊥
ElementsFault quote old start OutOfMemory = Unit {0}

-- an integer from 0 to 2^63 - 1
pub record IsSmall (n : ℤ) : Type 0 where
  pub value : ℕ
  pub is : n ≡ pos value
  pub small : value < 2 ^ 63

-- a blank or a comment was taken
pub record TakesGap (old new : Spot) : Type 0 where
  pub piece : Bytes
  pub gap : IsGap piece
  pub moved : Moved old piece new

-- the longest token was taken, where names are numbered by this list
pub record TakesLongest (names : List Bytes) (old : Spot) (kind : TokenKind) (new : Spot) : Type 0 where
  pub piece : Bytes
  pub spelled : Spells names kind piece
  pub longest : IsLongest old.rest piece
  pub moved : Moved old piece new

-- why there is no token here
abbrev pub PieceFault : Spot → LexError → Type 0
PieceFault here (BadByte place) = (part : Bytes) × IsBadAt here.rest part × (place ≡ past here.place part)
PieceFault here (Unclosed place) = IsUnclosed here.rest × (place ≡ here.place)
PieceFault here (NumberTooLarge place) = IsLargeNumber here.rest × (place ≡ here.place)
PieceFault here TooManyTokens = ⊥
PieceFault here OutOfMemory = Unit {0}

-- the longest token was taken, and these are the names behind it
pub record TakesNamed (names : List Bytes) (old : Spot) (kind : TokenKind) (new : Spot) (after : List Bytes) : Type 0 where
  pub piece : Bytes
  pub spelled : Spells names kind piece
  pub longest : IsLongest old.rest piece
  pub moved : Moved old piece new
  pub named : after ≡ names_past kind piece names

-- how far reading has come
abbrev pub reading_of : Spot → List Bytes → List Token → Reading
reading_of spot names tokens = record { spot = spot; names = names; tokens = tokens }

-- a byte that begins neither a blank nor a comment
abbrev pub begins_no_gap : ℕ → Bool
begins_no_gap b = not (is_blank b) && not (b == 123)

-- a byte that begins neither of these, no identifier, word, number, character or string
abbrev pub begins_other : ℕ → Bool
begins_other b = begins_no_gap b && (not (is_letter b) && (not (is_digit b) && (not (b == 39) && not (b == 34))))

-- a table of texts behind references
abbrev pub table_of : {T : Type 0} → List (Bor Bytes × T) → List (Bytes × T)
table_of = map (λ entry. (entry.0.now, entry.1))
