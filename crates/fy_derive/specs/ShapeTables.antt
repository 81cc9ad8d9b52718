-- What a table of the program says: its shapes, and which nodes are asked for which of them.
use Rattle.std.specs.Prelude.{ℕ, ◌≡◌, ◌<◌, ◌↔◌, List, [], ◌∷◌, length, slice_get, Option, Some}
use Rattle.std.specs.Option.{option_map}
use Rattle.fy_phrase.specs.declared.shapes.ShapeElem.{ShapeElem}
use Rattle.fy_phrase.specs.declared.shapes.ShapeElem.TheVariants as elem
use Rattle.fy_phrase.specs.declared.shapes.ShapeEnd.{ShapeEnd}
use Rattle.fy_phrase.specs.declared.shapes.ShapeEnd.TheVariants as ending
use Rattle.fy_phrase.specs.declared.shapes.Shape.{Shape}
use Rattle.fy_phrase.specs.declared.shapes.Pair.{Pair}
use Rattle.fy_phrase.specs.declared.shapes.ShapeTable.{ShapeTable}
use Rattle.fy_derive.specs.Shapes.{EndShape, a_value, an_assignment, a_run, PlainShape, at_end, a_call, a_field}

abbrev pub plain_end : ShapeEnd → EndShape
plain_end ending.Value = a_value
plain_end ending.Assign = an_assignment
plain_end ending.Run = a_run

-- the shape with demands in front
abbrev pub behind : List ShapeElem → PlainShape → PlainShape
behind [] s = s
behind (elem.Call ∷ es) s = a_call (behind es s)
behind (elem.Field i ∷ es) s = a_field i (behind es s)

-- the shape that a value is
abbrev pub plain_shape : Shape → PlainShape
plain_shape s = behind s.elems (at_end (plain_end s.end))

-- the shape with the number in the table
abbrev pub shape_at : ShapeTable → ℕ → Option PlainShape
shape_at table n = option_map plain_shape (slice_get table.shapes n)

-- the node is asked for the shape: one of the table's pairs says so
pub record HasPairOf (table : ShapeTable) (node : ℕ) (shape : PlainShape) : Type 0 where
  pub place : ℕ
  pub pair : Pair
  pub stands : slice_get table.pairs place ≡ Some pair
  pub node_is : pair.node ≡ node
  pub shape_is : shape_at table pair.shape ≡ Some shape

-- each shape stands once, and so does each pair, whose shape is in the table; and each shape is that of a pair
pub record IsShapeTable (table : ShapeTable) : Type 0 where
  pub shapes_once : (i j : ℕ) (s : PlainShape) → shape_at table i ≡ Some s → shape_at table j ≡ Some s → i ≡ j
  pub pairs_once : (i j : ℕ) (p : Pair) → slice_get table.pairs i ≡ Some p → slice_get table.pairs j ≡ Some p → i ≡ j
  pub pairs_within : (i : ℕ) (p : Pair) → slice_get table.pairs i ≡ Some p → p.shape < length table.shapes
  pub shapes_used : (n : ℕ) (s : PlainShape) → shape_at table n ≡ Some s → (node : ℕ) × HasPairOf table node s

-- the table has just these pairs
pub record HasJustPairs (table : ShapeTable) (pairs : ℕ → PlainShape → Type 0) : Type 0 where
  pub sound : IsShapeTable table
  pub same : (node : ℕ) (shape : PlainShape) → HasPairOf table node shape ↔ pairs node shape
