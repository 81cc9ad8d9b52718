-- Which tables code is made from.
use Rattle.std.specs.Prelude.{◌≡◌, None}
use Rattle.fy_phrase.specs.declared.shapes.ShapeTable.{ShapeTable}
use Rattle.fy_phrase.specs.Tree.{Tree}
use Rattle.fy_derive.specs.Derivations.{PlainDerivation}
use Rattle.fy_derive.specs.Judging.{conclusion_of, refusal}
use Rattle.fy_derive.specs.Shapes.{shape_table}
use Rattle.fy_derive.specs.ShapeTables.{HasJustPairs}

-- the table is that of a derivation which is accepted for the phrase
pub record IsTableOf (p : Tree) (table : ShapeTable) : Type 0 where
  pub derivation : PlainDerivation
  pub accepted : refusal (conclusion_of p derivation) ≡ None
  pub pairs : HasJustPairs table (shape_table p derivation)
