-- The law of shape tables.
use Rattle.std.specs.Prelude.{◌≡◌, None}
use Rattle.fy_phrase.specs.Tree.{Tree}
use Rattle.fy_derive.specs.Derivations.{PlainDerivation}
use Rattle.fy_derive.specs.Judging.{conclusion_of, refusal}
use Rattle.fy_derive.specs.Shapes.{shape_table, IsClosed}

-- the shape table of an accepted derivation is closed
abbrev pub ShapeTablesAreClosed : Type 0
ShapeTablesAreClosed = (p : Tree) (d : PlainDerivation) → refusal (conclusion_of p d) ≡ None → IsClosed p (shape_table p d)
