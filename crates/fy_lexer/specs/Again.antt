-- Texts that are read again, with a closing parenthesis behind them or with more names.
use Rattle.std.specs.Prelude.{◌≡◌, ◌≢◌, List, [], ◌∷◌, ◌++◌, map}
use Rattle.fy_base.specs.Outside.{Bytes}
use Rattle.fy_base.specs.declared.data.Place.{Place}
use Rattle.fy_lexer.specs.declared.token.Token.{Token}
use Rattle.fy_lexer.specs.declared.token.TokenKind.{TokenKind}
use Rattle.fy_lexer.specs.declared.token.TokenKind.TheVariants.{End}
use Rattle.fy_lexer.specs.Spot.{Spot}
use Rattle.fy_lexer.specs.Tokens.{Reading, Steps, IsTokensOf, HasAdded}

-- tokens but for their places
abbrev pub kinds : List Token → List TokenKind
kinds tokens = map (λ (token : Token). token.kind) tokens

-- the end of a text isn't among the tokens
abbrev pub HaveNoEnd : List Token → Type 0
HaveNoEnd [] = Unit {0}
HaveNoEnd (token ∷ tokens) = (token.kind ≢ End) × HaveNoEnd tokens

-- reading stands before these bytes, which begin at that place
abbrev pub reading_at : Bytes → Place → List Bytes → List Token → Reading
reading_at rest place names tokens = record { spot = record { rest = rest; place = place }; names = names; tokens = tokens }

-- reading that took its own tokens up to the end of a text takes, where a closing parenthesis and more stand behind that text, tokens of the same kinds
pub record IsReadAgain (old last : Reading) (more : Bytes) (place : Place) (names : List Bytes) (before : List Token) : Type 0 where
  pub own : List Token
  pub taken : last.tokens ≡ old.tokens ++ own
  pub inside : HaveNoEnd own
  pub again : List Token
  pub same : kinds own ≡ kinds again
  pub end : Place
  pub steps : Steps (reading_at (old.spot.rest ++ 41 ∷ more) place names before) (reading_at (41 ∷ more) end names (before ++ again))

-- the rest of a text is read again so at any place, behind any tokens, with any list that has all its names
abbrev pub RestsAreReadAgain : Type 0
RestsAreReadAgain =
    (old last : Reading) (more : Bytes) (place : Place) (names : List Bytes) (before : List Token) →
    Steps old last → last.spot.rest ≡ [] → HasAdded last.names names → IsReadAgain old last more place names before

-- with a list that has the names that a text leaves it has the same tokens, and leaves that list
abbrev pub LaterNamesChangeNothing : Type 0
LaterNamesChangeNothing =
    (names after later : List Bytes) (text : Bytes) (tokens : List Token) → IsTokensOf names text tokens after → HasAdded after later → IsTokensOf later text tokens later
