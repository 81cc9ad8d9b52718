-- Laws of the tree that is shown.
use Rattle.std.specs.Prelude.{◌≡◌, ℕ, List, [], ◌∷◌, ◌++◌, All}
use Rattle.fy_base.specs.Outside.{Bytes}
use Rattle.fy_types.specs.Types.{PlainType}
use Rattle.fy_phrase.specs.Tree.{Tree}
use Rattle.fy_derive.specs.Derivations.{PlainDerivation}
use Rattle.fy_derive.specs.Judging.{concludes, judged}
use Rattle.fy_show.specs.Entries.{Scope, Known}
use Rattle.fy_tree.specs.Annotated.{Row, Annotated, raised, node, AnnotatedList, no_annotated, and_annotated, shown_of, conclusion_of}

abbrev mutual
  -- the rows of a tree, in the order of their numbers
  pub rows : Annotated → List Row
  rows (raised r a) = r ∷ rows a
  rows (node r below) = r ∷ all_rows below

  pub all_rows : AnnotatedList → List Row
  all_rows no_annotated = []
  all_rows (and_annotated a below) = rows a ++ all_rows below

-- judging the node concludes what the row says
abbrev pub IsJudgedRow : Row → Type 0
IsJudgedRow r = judged r.spot.node r.spot.number r.types r.spot.phrase ≡ concludes r.spot.conclusion

-- where a derivation concludes a type, so does the root of its tree, and at each node judging concludes what is shown there
pub record ShowsJudging (k : Known) (d : PlainDerivation) (n : ℕ) (G : List PlainType) (s : Scope) (added : Bytes) (p : Tree) (A : PlainType) : Type 0 where
  pub root : conclusion_of (shown_of k d n G s added p) ≡ A
  pub all : All IsJudgedRow (rows (shown_of k d n G s added p))

abbrev pub ConclusionsAreShown : Type 0
ConclusionsAreShown =
    (k : Known) (d : PlainDerivation) (n : ℕ) (G : List PlainType) (s : Scope) (added : Bytes) (p : Tree) (A : PlainType)
    → judged d n G p ≡ concludes A → ShowsJudging k d n G s added p A
