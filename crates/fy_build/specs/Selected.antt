-- Which code a phrase has, and which image is selected from such code, and how long it is.
use Rattle.std.specs.Prelude.{◌+◌, ◌*◌, ◌≤◌, Bool, true, false, length, All}
use Rattle.fy_phrase.specs.Tree.{Tree}
use Rattle.fy_phrase.specs.declared.shapes.ShapeTable.{ShapeTable}
use Rattle.fy_derive.specs.Derivations.{PlainDerivation}
use Rattle.fy_derive.specs.Shapes.{shape_table}
use Rattle.fy_derive.specs.ShapeTables.{HasJustPairs}
use Rattle.fy_image.specs.declared.image.Image.{Image}
use Rattle.pe_code.specs.Valid.{IsValid}
use Rattle.pe_code.specs.declared.code.PeCode.{PeCode}
use Rattle.pe_right.specs.Constants.{constant}
use Rattle.pe_right.specs.Direct.{HandsNoConstant}
use Rattle.pe_right.specs.Follows.{FollowsCopyRule}
use Rattle.pe_right.specs.Entered.{none_straight}
use Rattle.pe_right.specs.Right.{IsCodeOf}
use Rattle.pe_shapes.specs.Order.{AreInOrder}
use Rattle.pe_gen.specs.Layout.{IsLaidOut}
use Rattle.pe_gen.specs.Straightened.{IsCodeStraight, IsStraightenedOf}
use Rattle.rv_select.specs.Images.{IsSelectionImage}

-- the code of a phrase by a table of the demand shapes of a derivation in use, with constants handed as data: it is valid and right, so that it has an entry for each pair of the table and for no other,
-- has an item for each pair whose node is no merge and no other, in order of node and shape behind the program's, hands no constant of the phrase as a thunk, and does what the copy rule does
pub record IsRightCode (p : Tree) (table : ShapeTable) (code : PeCode) : Type 0 where
  pub valid : IsValid code
  pub right : IsCodeOf constant none_straight p table code
  pub laid_out : IsLaidOut p code
  pub hands_no_constant : All (λ item. HandsNoConstant p item.insn) code.items
  pub follows : FollowsCopyRule constant p code

-- that code, in which the greatest expressions and assignments that can be are evaluated in one step: it is valid and right, and does what the copy rule does
pub record IsStraightCode (p : Tree) (table : ShapeTable) (code : PeCode) : Type 0 where
  pub direct : PeCode
  pub its : IsRightCode p table direct
  pub straightened : IsStraightenedOf p direct code
  pub valid : IsValid code
  pub right : IsCodeStraight p table code
  pub follows : FollowsCopyRule constant p code

-- the code with nodes that are evaluated in one step, or with none
abbrev pub IsCodeWanted : (straight : Bool) → Tree → ShapeTable → PeCode → Type 0
IsCodeWanted true p table code = IsStraightCode p table code
IsCodeWanted false p table code = IsRightCode p table code

-- the image is the selection of what is straightened of the code of the phrase and the table, laid out, that hands no constant as a thunk; it has at most 60 words for each pair of the table, and 4,096
-- beside
pub record IsSelectedBy (p : Tree) (table : ShapeTable) (image : Image) : Type 0 where
  pub code : PeCode
  pub right : IsCodeOf constant none_straight p table code
  pub laid_out : IsLaidOut p code
  pub hands_no_constant : All (λ item. HandsNoConstant p item.insn) code.items
  pub straight : PeCode
  pub straightened : IsStraightenedOf p code straight
  pub selection : IsSelectionImage straight image
  pub short : length image.code ≤ 60 * length table.pairs + 4096

-- so it is for the table of the pairs of the derivation, in order
abbrev pub IsSelectedFrom : Tree → PlainDerivation → Image → Type 0
IsSelectedFrom p d image = (table : ShapeTable) × HasJustPairs table (shape_table p d) × AreInOrder table × IsSelectedBy p table image
