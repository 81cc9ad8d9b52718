-- What is known of code that was generated.
use Rattle.fy_phrase.specs.declared.shapes.ShapeTable.{ShapeTable}
use Rattle.fy_phrase.specs.Tree.{Tree}
use Rattle.fy_phrase.specs.WellMade.{IsClosed, HasDepths}
use Rattle.pe_code.specs.declared.code.PeCode.{PeCode}
use Rattle.pe_code.specs.Valid.{IsValid}
use Rattle.pe_right.specs.Constants.{no_data}
use Rattle.pe_right.specs.Entered.{none_straight}
use Rattle.pe_right.specs.Right.{IsCodeOf}
use Rattle.pe_right.specs.Typed.{IsTableOf}
use Rattle.pe_gen.specs.Sizes.{HasSizesOf}

-- the code is that of a closed phrase and the table of an accepted derivation, with no data handed
pub record IsGenerated (p : Tree) (code : PeCode) : Type 0 where
  pub closed : IsClosed p
  pub depths : HasDepths p
  pub table : ShapeTable
  pub typed : IsTableOf p table
  pub right : IsCodeOf no_data none_straight p table code
  pub valid : IsValid code
  pub sizes : HasSizesOf p code
