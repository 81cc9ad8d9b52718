-- The laws of laid out code.
use Rattle.std.specs.Prelude.{ℕ, ◌≡◌, false, Option, None}
use Rattle.fy_base.specs.declared.data.Datum.{Datum}
use Rattle.fy_base.specs.declared.data.Place.{Place}
use Rattle.fy_phrase.specs.declared.shapes.ShapeTable.{ShapeTable}
use Rattle.fy_phrase.specs.Tree.{Tree, var}
use Rattle.pe_code.specs.declared.code.PeCode.{PeCode}
use Rattle.pe_code.specs.Valid.{IsValid}
use Rattle.pe_right.specs.Entered.{none_straight}
use Rattle.pe_right.specs.Right.{IsCodeOf}
use Rattle.pe_right.specs.Typed.{IsTableOf}
use Rattle.pe_gen.specs.Layout.{IsLaidOut}
use Rattle.pe_gen.specs.Sites.{is_merge}
use Rattle.pe_gen.specs.Straightened.{IsStraightenedOf}

-- a phrase that is no merge, the table of an accepted derivation and what is known of data, none of a variable, have one code that is right, valid and laid out
abbrev pub LaidOutCodeIsOne : Type 0
LaidOutCodeIsOne =
    (handed : Tree → Option Datum) (p : Tree) (table : ShapeTable) (one other : PeCode) → is_merge p ≡ false → IsTableOf p table → ((k : ℕ) (at : Place) → handed (var k at) ≡ None)
    → IsCodeOf handed none_straight p table one → IsCodeOf handed none_straight p table other → IsValid one → IsValid other → IsLaidOut p one → IsLaidOut p other → one ≡ other

-- of laid out code what is straightened is one
abbrev pub StraightenedCodeIsOne : Type 0
StraightenedCodeIsOne = (p : Tree) (code one other : PeCode) → IsLaidOut p code → IsStraightenedOf p code one → IsStraightenedOf p code other → one ≡ other
