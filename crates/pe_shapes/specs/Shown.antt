-- A table as the shapes that its numbers stand for.
use Rattle.std.specs.Prelude.{ℕ, ◌<◌, ◌≤◌, ◌≡◌, List, All, map, length}
use Rattle.fy_derive.specs.Shapes.{PlainShape}
use Rattle.pe_shapes.specs.declared.numbers.ShapeNumbers.{ShapeNumbers}
use Rattle.pe_shapes.specs.Numbering.{shapes_of, numbered_shape}

-- how many shapes the table has
abbrev pub total : ShapeNumbers → ℕ
total t = length t.nodes.keys

abbrev pub shapes_in : ShapeNumbers → List PlainShape
shapes_in t = shapes_of t.nodes.keys

-- the shape with the number
abbrev pub shown : ShapeNumbers → ℕ → PlainShape
shown t k = numbered_shape (shapes_in t) k

-- the shapes with the numbers
abbrev pub all_shown : ShapeNumbers → List ℕ → List PlainShape
all_shown t ks = map (shown t) ks

-- each number of the old table stands for the same shape in the new one
pub record Extends (old new : ShapeNumbers) : Type 0 where
  pub more : total old ≤ total new
  pub same : (k : ℕ) → k < total old → shown new k ≡ shown old k

-- each number is one of the table's
pub record AreIn (t : ShapeNumbers) (ks : List ℕ) : Type 0 where
  pub below : All (λ k. k < total t) ks

-- each list has such numbers alone
pub record AreAllIn (t : ShapeNumbers) (sets : List (List ℕ)) : Type 0 where
  pub each : All (AreIn t) sets
