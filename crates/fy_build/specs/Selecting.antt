-- From selected code to an image.
use Rattle.std.specs.Prelude.{◌≡◌}
use Rattle.fy_image.specs.declared.image.Image.{Image}
use Rattle.pe_code.specs.declared.code.PeCode.{PeCode}
use Rattle.rv_asm.specs.declared.items.Assembled.{Assembled}
use Rattle.rv_asm.specs.Assembly.{IsAssembly}
use Rattle.rv_flow.specs.Laws.{CanBeAssembled}
use Rattle.rv_select.specs.declared.selection.Selected.{Selected}
use Rattle.rv_select.specs.Images.{IsSelectionImage}
use Rattle.rv_select.specs.Laws.{IsSelectable}
use Rattle.rv_select.specs.Program.{word_code}
use Rattle.rv_select.specs.Selection.{IsSelection}
use Rattle.fy_build.specs.Building.{IsStackSize}

-- the image has the assembled words, and the table and the places that were selected
pub record IsMadeOf (selected : Selected) (assembled : Assembled) (image : Image) : Type 0 where
  pub assembly : IsAssembly selected.items assembled
  pub words_are : image.code ≡ assembled.words
  pub table_is : image.table ≡ selected.table
  pub places_are : image.places ≡ selected.places
  pub stack : IsStackSize image.stack_words

-- what is selected can be assembled
abbrev pub SelectionsCanBeAssembled : Type 0
SelectionsCanBeAssembled = (code : PeCode) → IsSelectable code → CanBeAssembled (word_code code)

-- and then it is an image of the code
abbrev pub SelectionsBecomeImages : Type 0
SelectionsBecomeImages =
    (code : PeCode) (selected : Selected) (assembled : Assembled) (image : Image) → IsSelectable code → IsSelection code selected → IsMadeOf selected assembled image → IsSelectionImage code image
