-- A phrase that is spelled again by tokens in other places.
use Rattle.std.specs.Prelude.{◌≡◌, List, [], ◌∷◌, ◌++◌}
use Rattle.fy_base.specs.declared.data.Place.{Place}
use Rattle.fy_lexer.specs.declared.token.Token.{Token}
use Rattle.fy_lexer.specs.declared.token.TokenKind.TheVariants.{End}
use Rattle.fy_lexer.specs.Again.{kinds, HaveNoEnd}
use Rattle.fy_syntax.specs.Trees.{Tree}
use Rattle.fy_syntax.specs.Signs.{token, Level}
use Rattle.fy_syntax.specs.Spells.{SpellsBefore}
use Rattle.fy_syntax.specs.Places.{without_places}

-- the tokens before the rest spell the tree but for its places
pub record IsSpelledAgain (tree : Tree) (tokens rest : List Token) : Type 0 where
  pub other : Tree
  pub spelled : SpellsBefore Level.phrase other tokens rest
  pub same : without_places other ≡ without_places tree

-- tokens of the same kinds as those of a program spell its phrase but for places, whatever stands behind them in place of the end
abbrev pub PhrasesAreSpelledAgain : Type 0
PhrasesAreSpelledAgain =
    (tree : Tree) (at : Place) (tokens others rest : List Token) → HaveNoEnd tokens → kinds tokens ≡ kinds others →
    SpellsBefore Level.phrase tree (tokens ++ token End at ∷ []) (token End at ∷ []) → IsSpelledAgain tree (others ++ rest) rest
