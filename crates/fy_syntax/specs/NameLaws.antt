-- The names in the tree of a program are those of identifiers among its tokens.
use Rattle.std.specs.Prelude.{ℕ, Bool, IsTrue, List}
use Rattle.fy_base.specs.Outside.{Bytes}
use Rattle.fy_types.specs.Fields.{IsNamed}
use Rattle.fy_lexer.specs.declared.token.Token.{Token}
use Rattle.fy_lexer.specs.Identifiers.{AllIdentifiers}
use Rattle.fy_syntax.specs.Trees.{Tree}
use Rattle.fy_syntax.specs.TreeNames.{AllNames}
use Rattle.fy_syntax.specs.Spells.{IsProgram}

-- where each identifier among the tokens of a program passes a test, or is a number among the names, so does each name in its tree
pub record NamesAreOfTokens : Type 0 where
  pub tests : (p : ℕ → Bool) (tree : Tree) (tokens : List Token) → IsProgram tree tokens →
      AllIdentifiers (λ n. IsTrue (p n)) tokens → AllNames (λ n. IsTrue (p n)) tree
  pub named : (names : List Bytes) (tree : Tree) (tokens : List Token) → IsProgram tree tokens →
      AllIdentifiers (IsNamed names) tokens → AllNames (IsNamed names) tree
