-- The order of shapes, and of what a table of them lists.
use Rattle.std.specs.Prelude.{ℕ, ◌<◌, ◌≡◌, ◌⊎◌, ◌==◌, nat_lt, Bool, true, false, ◌&&◌, ◌||◌, map, AllPairs}
use Rattle.fy_phrase.specs.declared.shapes.Pair.{Pair}
use Rattle.fy_phrase.specs.declared.shapes.ShapeTable.{ShapeTable}
use Rattle.fy_phrase.specs.Tree.{Tree}
use Rattle.fy_derive.specs.Derivations.{PlainDerivation}
use Rattle.fy_derive.specs.Shapes.{EndShape, a_value, an_assignment, a_run, PlainShape, at_end, a_call, a_field, shape_table}
use Rattle.fy_derive.specs.ShapeTables.{plain_shape, HasJustPairs}

-- values, then assignments, then runs
abbrev pub end_rank : EndShape → ℕ
end_rank a_value = 0
end_rank an_assignment = 1
end_rank a_run = 2

-- ends come first, then calls, by what is behind them, and then fields, by their numbers and then by what is behind them
abbrev pub comes_before : PlainShape → PlainShape → Bool
comes_before (at_end x) (at_end y) = nat_lt (end_rank x) (end_rank y)
comes_before (at_end x) (a_call t) = true
comes_before (at_end x) (a_field j t) = true
comes_before (a_call s) (at_end y) = false
comes_before (a_call s) (a_call t) = comes_before s t
comes_before (a_call s) (a_field j t) = true
comes_before (a_field i s) (at_end y) = false
comes_before (a_field i s) (a_call t) = false
comes_before (a_field i s) (a_field j t) = nat_lt i j || ((i == j) && comes_before s t)

-- one pair stands before another: by node, then by shape
abbrev pub IsPairBefore : Pair → Pair → Type 0
IsPairBefore x y = (x.node < y.node) ⊎ (x.node ≡ y.node) × (x.shape < y.shape)

-- each shape and each pair of the table comes before those behind it
pub record AreInOrder (table : ShapeTable) : Type 0 where
  pub shapes : AllPairs (λ s t. comes_before s t ≡ true) (map plain_shape table.shapes)
  pub pairs : AllPairs IsPairBefore table.pairs

-- a phrase and a derivation have at most one table of just their pairs in order
abbrev pub ShapeTablesAreOne : Type 0
ShapeTablesAreOne =
    (p : Tree) (d : PlainDerivation) (one other : ShapeTable) → HasJustPairs one (shape_table p d) → HasJustPairs other (shape_table p d) → AreInOrder one → AreInOrder other → one ≡ other
