-- Whose names a core phrase has.
use Rattle.std.specs.Prelude.{ℕ, Bool, IsTrue, List}
use Rattle.fy_base.specs.Outside.{Bytes}
use Rattle.fy_types.specs.Fields.{IsNamed}
use Rattle.fy_syntax.specs.Trees as written
use Rattle.fy_syntax.specs.TreeNames as of_tree
use Rattle.fy_phrase.specs.Tree.{Tree}
use Rattle.fy_phrase.specs.PhraseNames.{AllNames}

-- each name in the phrase is `len`, whose number is 0, or stands in the tree: where those pass a test, or are numbers among the names, so is each in the phrase
pub record HasNamesOf (tree : written.Tree) (p : Tree) : Type 0 where
  pub tests : (test : ℕ → Bool) → IsTrue (test 0) → of_tree.AllNames (λ n. IsTrue (test n)) tree → AllNames (λ n. IsTrue (test n)) p
  pub named : (names : List Bytes) → IsNamed names 0 → of_tree.AllNames (IsNamed names) tree → AllNames (IsNamed names) p
