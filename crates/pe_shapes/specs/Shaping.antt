-- The answer of finding the shapes of a derivation: a table of just these, or the limit that they pass.
use Rattle.std.specs.Prelude.{ℕ, ◌+◌, ◌<◌, ◌≤◌, length, Result, Ok, Err}
use Rattle.fy_phrase.specs.declared.shapes.ShapeTable.{ShapeTable}
use Rattle.fy_phrase.specs.Tree.{Tree}
use Rattle.fy_derive.specs.Derivations.{PlainDerivation}
use Rattle.fy_derive.specs.Shapes.{PlainShape, shape_table, table_words}
use Rattle.fy_derive.specs.ShapeTables.{HasJustPairs}
use Rattle.pe_shapes.specs.declared.error.ShapeError.{ShapeError}
use Rattle.pe_shapes.specs.declared.error.ShapeError.TheVariants.{TooManyShapes, TooManyEntries, TablesTooLarge, OutOfMemory}
use Rattle.pe_shapes.specs.Counts.{HasMany, HasAtMost, IsCount}

-- the limits on the shapes of a program, on its pairs of a node and a shape, and on the words of its tables
abbrev pub most_shapes : ℕ
most_shapes = 256

abbrev pub most_pairs : ℕ
most_pairs = 65536

abbrev pub most_words : ℕ
most_words = 1048576

-- some node of the derivation concludes a type with a path of the shape
abbrev pub IsShapeOf : Tree → PlainDerivation → PlainShape → Type 0
IsShapeOf p d s = (k : ℕ) × shape_table p d k s

-- a pair of a node and a shape of the derivation
abbrev pub IsPairOf : Tree → PlainDerivation → ℕ × PlainShape → Type 0
IsPairOf p d x = shape_table p d x.0 x.1

-- a table keeps the limits
pub record KeepsLimits (p : Tree) (table : ShapeTable) : Type 0 where
  pub shapes : length table.shapes ≤ most_shapes
  pub pairs : length table.pairs ≤ most_pairs
  pub words : table_words p (length table.shapes) ≤ most_words

-- the number of the shapes keeps its limit, and passes that on the words of the tables
pub record PassesWords (p : Tree) (d : PlainDerivation) : Type 0 where
  pub shapes : ℕ
  pub counted : IsCount (IsShapeOf p d) shapes
  pub few : shapes ≤ most_shapes
  pub large : most_words < table_words p shapes

abbrev pub IsShaping : Result ShapeTable ShapeError → Tree → PlainDerivation → Type 0
IsShaping (Ok table) p d = HasJustPairs table (shape_table p d) × KeepsLimits p table
IsShaping (Err TooManyShapes) p d = HasMany (most_shapes + 1) (IsShapeOf p d)
IsShaping (Err TooManyEntries) p d = HasAtMost most_shapes (IsShapeOf p d) × HasMany (most_pairs + 1) (IsPairOf p d)
IsShaping (Err TablesTooLarge) p d = PassesWords p d × HasAtMost most_pairs (IsPairOf p d)
IsShaping (Err OutOfMemory) p d = Unit {0}
