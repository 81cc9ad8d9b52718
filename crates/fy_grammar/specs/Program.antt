-- The program that tokens spell, and why they spell none.
use Rattle.std.specs.Prelude.{◌≡◌, ◌≢◌, ℕ, ◌≤◌, Bool, true, false, List, [], ◌∷◌, ◌++◌}
use Rattle.std.specs.List.{All}
use Rattle.fy_base.specs.declared.data.Place.{Place}
use Rattle.fy_lexer.specs.declared.token.Token.{Token}
use Rattle.fy_lexer.specs.declared.token.TokenKind.{TokenKind}
use Rattle.fy_lexer.specs.declared.token.TokenKind.TheVariants as kind
use Rattle.fy_syntax.specs.Trees.{Tree}
use Rattle.fy_syntax.specs.Nesting.{nesting}
use Rattle.fy_syntax.specs.Signs.{token}
use Rattle.fy_syntax.specs.Spells.{IsProgram}
use Rattle.fy_places.specs.Begins.{IsSyntaxFault, IsDepthFault}
use Rattle.fy_grammar.specs.declared.error.ParseError.{ParseError}
use Rattle.fy_grammar.specs.declared.error.ParseError.TheVariants.{Syntax, TooDeep, OutOfMemory}

-- the end stands last, and nowhere else
pub record IsEnded (tokens : List Token) : Type 0 where
  pub before : List Token
  pub at : Place
  pub is : tokens ≡ before ++ token kind.End at ∷ []
  pub no_other : All (λ t. t.kind ≢ kind.End) before

-- whether a token is the end, and whether the end alone is left
abbrev pub is_end : TokenKind → Bool
is_end kind.End = true
is_end _ = false

abbrev pub is_over : List Token → Bool
is_over [] = false
is_over (t ∷ []) = is_end t.kind
is_over (t ∷ u ∷ tokens) = false

-- how many term and type nodes may stand on one path
abbrev pub deepest : ℕ
deepest = 256

-- the tree that the tokens spell, which is the only one
pub record IsTheProgram (tokens : List Token) (tree : Tree) : Type 0 where
  pub spelled : IsProgram tree tokens
  pub within : nesting tree ≤ deepest
  pub only : (other : Tree) → IsProgram other tokens → other ≡ tree

-- why each error comes, and where: at the first token with which no program within the nesting begins; want of memory may come anywhere
abbrev pub IsRefusal : List Token → ParseError → Type 0
IsRefusal tokens (Syntax place) = IsSyntaxFault deepest tokens place
IsRefusal tokens (TooDeep place) = IsDepthFault deepest tokens place
IsRefusal tokens OutOfMemory = Unit {0}
