-- The identifiers among names and tokens.
use Rattle.std.specs.Prelude.{ℕ, IsTrue, All, List, [], ◌∷◌}
use Rattle.fy_base.specs.Outside.{Bytes}
use Rattle.fy_types.specs.Fields.{IsNamed}
use Rattle.fy_types.specs.Names.{first_names}
use Rattle.fy_types.specs.Words.{is_identifier}
use Rattle.fy_lexer.specs.declared.token.Token.{Token}
use Rattle.fy_lexer.specs.declared.token.TokenKind.{TokenKind}
use Rattle.fy_lexer.specs.declared.token.TokenKind.TheVariants.{Ident, Number, Letter, Str, Word, Sym, End}
use Rattle.fy_lexer.specs.Tokens.{IsTokensOf}

-- each name is an identifier
abbrev pub AreIdentifiers : List Bytes → Type 0
AreIdentifiers = All (λ name. IsTrue (is_identifier name))

-- the number of an identifier has the property
abbrev pub OfIdentifier : (ℕ → Type 0) → TokenKind → Type 0
OfIdentifier P (Ident n) = P n
OfIdentifier P (Word keyword) = Unit {0}
OfIdentifier P (Number n) = Unit {0}
OfIdentifier P (Letter value) = Unit {0}
OfIdentifier P (Str values) = Unit {0}
OfIdentifier P (Sym symbol) = Unit {0}
OfIdentifier P End = Unit {0}

-- the number of each identifier among the tokens has the property
abbrev pub AllIdentifiers : (ℕ → Type 0) → List Token → Type 0
AllIdentifiers P [] = Unit {0}
AllIdentifiers P (token ∷ tokens) = OfIdentifier P token.kind × AllIdentifiers P tokens

-- the first names are identifiers; where the names before a text are, so are those behind it; and among these its identifiers have their numbers
pub record IdentifiersAreNamed : Type 0 where
  pub first : AreIdentifiers first_names
  pub kept : (names : List Bytes) (text : Bytes) (tokens : List Token) (after : List Bytes) → IsTokensOf names text tokens after →
      AreIdentifiers names → AreIdentifiers after
  pub named : (names : List Bytes) (text : Bytes) (tokens : List Token) (after : List Bytes) → IsTokensOf names text tokens after →
      AreIdentifiers names → AllIdentifiers (IsNamed after) tokens
