-- Texts that spell a tree.
use Rattle.std.specs.Prelude.{◌≡◌, ℕ, pos, ◌≤ℤ◌, IsTrue, List, [], ◌∷◌, ◌++◌}
use Rattle.fy_base.specs.Outside.{Bytes}
use Rattle.fy_types.specs.Names.{has, number_of}
use Rattle.fy_types.specs.Words.{is_identifier}
use Rattle.fy_lexer.specs.declared.token.Token.{Token}
use Rattle.fy_lexer.specs.declared.token.TokenKind.{TokenKind}
use Rattle.fy_lexer.specs.declared.token.TokenKind.TheVariants as kind
use Rattle.fy_lexer.specs.Spellings.{Spells as SpellsKind}
use Rattle.fy_lexer.specs.Tokens.{IsTokensOf}
use Rattle.fy_syntax.specs.Trees.{Tree}
use Rattle.fy_syntax.specs.Signs.{Level}
use Rattle.fy_syntax.specs.Spells.{Spells, IsProgram}
use Rattle.fy_syntax.specs.Places.{without_places}

-- the number of an identifier that is among the names
pub record IsIdentifierNumber (names : List Bytes) (n : ℕ) : Type 0 where
  pub text : Bytes
  pub identifier : IsTrue (is_identifier text)
  pub known : IsTrue (has names text)
  pub number : n ≡ number_of names text

-- a name is the number of an identifier, and an integer isn't negative
abbrev pub IsKnown : List Bytes → TokenKind → Type 0
IsKnown names (kind.Ident n) = IsIdentifierNumber names n
IsKnown names (kind.Number v) = pos 0 ≤ℤ v
IsKnown names _ = Unit {0}

abbrev pub AreKnown : List Bytes → List Token → Type 0
AreKnown names [] = Unit {0}
AreKnown names (t ∷ ts) = IsKnown names t.kind × AreKnown names ts

-- the tree spells some tokens, in which each name is the number of an identifier and no integer is negative
pub record IsPrintable (names : List Bytes) (tree : Tree) : Type 0 where
  pub tokens : List Token
  pub spelled : Spells Level.phrase tree tokens
  pub known : AreKnown names tokens

-- pieces with one blank in front of each
abbrev pub led : List Bytes → Bytes
led [] = []
led (piece ∷ pieces) = 32 ∷ piece ++ led pieces

-- pieces with one blank between two, and none at the ends
abbrev pub joined : List Bytes → Bytes
joined [] = []
joined (piece ∷ pieces) = piece ++ led pieces

-- each piece spells its token, and then comes the end
abbrev pub ArePieces : List Bytes → List Token → List Bytes → Type 0
ArePieces names [] pieces = ⊥
ArePieces names (t ∷ ts) [] = (t.kind ≡ kind.End) × (ts ≡ [])
ArePieces names (t ∷ ts) (piece ∷ pieces) = SpellsKind names t.kind piece × ArePieces names ts pieces

-- the text is tokens with one blank between two and none at the ends, and they are those of a program whose tree is this one but for places
pub record IsTextOf (names : List Bytes) (tree : Tree) (text : Bytes) : Type 0 where
  pub pieces : List Bytes
  pub is : text ≡ joined pieces
  pub tokens : List Token
  pub spelled : ArePieces names tokens pieces
  pub read : IsTokensOf names text tokens names
  pub other : Tree
  pub program : IsProgram other tokens
  pub same : without_places other ≡ without_places tree
