-- Where tokens stop beginning a program: the first token with which no program of the allowed nesting begins.
use Rattle.std.specs.Prelude.{◌≡◌, ℕ, ◌≤◌, List, [], ◌∷◌, ◌++◌, map}
use Rattle.fy_base.specs.declared.data.Place.{Place}
use Rattle.fy_lexer.specs.declared.token.Token.{Token}
use Rattle.fy_lexer.specs.declared.token.TokenKind.{TokenKind}
use Rattle.fy_syntax.specs.Trees.{Tree}
use Rattle.fy_syntax.specs.Nesting.{nesting}
use Rattle.fy_syntax.specs.Spells.{IsProgram}

-- the tokens without their places
abbrev pub kinds : List Token → List TokenKind
kinds tokens = map (λ t. t.kind) tokens

-- some program begins with these tokens, whatever their places; its end is its last token
pub record Begins (tokens : List Token) : Type 0 where
  pub program : Tree
  pub whole : List Token
  pub more : List TokenKind
  pub spelled : IsProgram program whole
  pub is : kinds whole ≡ kinds tokens ++ more

-- some program of at most this nesting begins with them
pub record BeginsWithin (depth : ℕ) (tokens : List Token) : Type 0 where
  pub begins : Begins tokens
  pub within : nesting begins.program ≤ depth

-- the first token such that no program of at most this nesting begins with the tokens up to it
pub record IsFirstBad (depth : ℕ) (tokens before : List Token) (bad : Token) : Type 0 where
  pub after : List Token
  pub is : tokens ≡ before ++ bad ∷ after
  -- so no earlier token is bad
  pub begun : BeginsWithin depth before
  pub none : ¬ BeginsWithin depth (before ++ bad ∷ [])

-- the first bad token stands at this place, and no deeper program begins with the tokens up to it either
pub record IsSyntaxFault (depth : ℕ) (tokens : List Token) (place : Place) : Type 0 where
  pub before : List Token
  pub bad : Token
  pub at : bad.place ≡ place
  pub first : IsFirstBad depth tokens before bad
  pub none_deeper : ¬ Begins (before ++ bad ∷ [])

-- the first bad token stands at this place, and a deeper program begins with the tokens up to it
pub record IsDepthFault (depth : ℕ) (tokens : List Token) (place : Place) : Type 0 where
  pub before : List Token
  pub bad : Token
  pub at : bad.place ≡ place
  pub first : IsFirstBad depth tokens before bad
  pub deeper : Begins (before ++ bad ∷ [])
