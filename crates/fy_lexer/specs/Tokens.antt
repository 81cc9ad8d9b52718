-- The tokens of a text, and its first fault.
use Rattle.std.specs.Prelude.{◌≡◌, ℕ, ◌+◌, ◌-◌, ◌^◌, ◌≤◌, IsTrue, not, ◌==◌, pos, ◌≤ℤ◌, List, [], ◌∷◌, ◌++◌, length, ◌⊎◌}
use Rattle.fy_base.specs.Outside.{Bytes}
use Rattle.fy_base.specs.Places.{first_place}
use Rattle.fy_types.specs.Names.{with_name}
use Rattle.fy_lexer.specs.declared.error.LexError.{LexError}
use Rattle.fy_lexer.specs.declared.error.LexError.TheVariants.{BadByte, Unclosed, NumberTooLarge, TooManyTokens, OutOfMemory}
use Rattle.fy_lexer.specs.declared.token.Token.{Token}
use Rattle.fy_lexer.specs.declared.token.TokenKind.{TokenKind}
use Rattle.fy_lexer.specs.declared.token.TokenKind.TheVariants.{Ident, Number, Letter, Str, Word, Sym, End}
use Rattle.fy_lexer.specs.Pieces.{is_blank, IsGap, IsLongest, IsBadAt, IsUnclosed, IsLargeNumber}
use Rattle.fy_lexer.specs.Spellings.{Spells}
use Rattle.fy_lexer.specs.Spot.{Spot, Moved, past}

-- how far reading has come: what is left and where, the list of names, and the tokens so far
pub record Reading : Type 0 where
  pub spot : Spot
  pub names : List Bytes
  pub tokens : List Token

-- the list of names behind a token that these bytes spell
abbrev pub names_past : TokenKind → Bytes → List Bytes → List Bytes
names_past (Ident name) piece names = with_name names piece
names_past (Word keyword) piece names = names
names_past (Number n) piece names = names
names_past (Letter value) piece names = names
names_past (Str values) piece names = names
names_past (Sym symbol) piece names = names
names_past End piece names = names

-- a blank or a comment is dropped
pub record SkipsGap (old new : Reading) : Type 0 where
  pub piece : Bytes
  pub gap : IsGap piece
  pub moved : Moved old.spot piece new.spot
  pub names : new.names ≡ old.names
  pub tokens : new.tokens ≡ old.tokens

-- the longest token is taken
pub record TakesToken (old new : Reading) : Type 0 where
  pub piece : Bytes
  pub kind : TokenKind
  pub spelled : Spells old.names kind piece
  pub longest : IsLongest old.spot.rest piece
  pub moved : Moved old.spot piece new.spot
  pub names : new.names ≡ names_past kind piece old.names
  pub tokens : new.tokens ≡ old.tokens ++ record { kind = kind; place = old.spot.place } ∷ []

abbrev pub Step : Reading → Reading → Type 0
Step old new = SkipsGap old new ⊎ TakesToken old new

-- reading comes from one state to another over pieces end to end
pub data Steps : Reading → Reading → Type 0 where
  none : (here : Reading) → Steps here here
  more : (old next new : Reading) → Step old next → Steps next new → Steps old new

-- the beginning of a text
abbrev pub start_of : List Bytes → Bytes → Reading
start_of names text = record { spot = record { rest = text; place = first_place }; names = names; tokens = [] }

-- these are the tokens of the text, which is pieces end to end; the end comes last, just past the last byte
pub record IsTokensOf (names : List Bytes) (text : Bytes) (tokens : List Token) (after : List Bytes) : Type 0 where
  pub last : Reading
  pub steps : Steps (start_of names text) last
  pub ended : last.spot.rest ≡ []
  pub named : after ≡ last.names
  pub read : tokens ≡ last.tokens ++ record { kind = End; place = last.spot.place } ∷ []

-- a token within the limits: a number is at most 2^63 - 1
abbrev pub IsFit : TokenKind → Type 0
IsFit (Ident name) = Unit {0}
IsFit (Word keyword) = Unit {0}
IsFit (Number n) = n ≤ℤ pos (2 ^ 63 - 1)
IsFit (Letter value) = Unit {0}
IsFit (Str values) = Unit {0}
IsFit (Sym symbol) = Unit {0}
IsFit End = Unit {0}

abbrev pub AllFit : List Token → Type 0
AllFit [] = Unit {0}
AllFit (token ∷ tokens) = IsFit token.kind × AllFit tokens

-- at most 262,144 tokens, each within its limit
pub record IsWithin (tokens : List Token) : Type 0 where
  pub few : length tokens ≤ 262144
  pub fit : AllFit tokens

-- the tokens with their end are within the limits
pub record AreWithin (tokens : List Token) : Type 0 where
  pub few : length tokens ≤ 262144 + 1
  pub fit : AllFit tokens

-- 262,144 tokens were read, and a byte follows that begins neither a blank nor a comment
pub record IsFull (here : Reading) : Type 0 where
  pub byte : ℕ
  pub rest : Bytes
  pub is : here.spot.rest ≡ byte ∷ rest
  pub visible : IsTrue (not (is_blank byte))
  pub no_comment : IsTrue (not (byte == 123))
  pub many : length here.tokens ≡ 262144

-- the fault at which reading stops here
abbrev pub FaultAt : Reading → LexError → Type 0
FaultAt here (BadByte place) = (part : Bytes) × IsBadAt here.spot.rest part × (place ≡ past here.spot.place part) × ¬ IsFull here
FaultAt here (Unclosed place) = IsUnclosed here.spot.rest × (place ≡ here.spot.place) × ¬ IsFull here
FaultAt here (NumberTooLarge place) = IsLargeNumber here.spot.rest × (place ≡ here.spot.place) × ¬ IsFull here
FaultAt here TooManyTokens = IsFull here
FaultAt here OutOfMemory = Unit {0}

-- the text has this fault, the first from the left
pub record IsFaultOf (names : List Bytes) (text : Bytes) (error : LexError) : Type 0 where
  pub here : Reading
  pub steps : Steps (start_of names text) here
  pub within : IsWithin here.tokens
  pub fault : FaultAt here error

-- a list of names kept its entries, and has new ones at its end alone
pub record HasAdded (old new : List Bytes) : Type 0 where
  pub later : List Bytes
  pub is : new ≡ old ++ later
