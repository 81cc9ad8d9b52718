-- How many items selected code has, with which it begins, and how many words its table has.
use Rattle.std.specs.Prelude.{◌≡◌, ◌*◌, ◌≤◌, length, slice_get, Some}
use Rattle.pe_code.specs.declared.code.PeCode.{PeCode}
use Rattle.rv_asm.specs.declared.items.Item.TheVariants.{FarTo}
use Rattle.rv_flow.specs.Lowering.{items_of}
use Rattle.rv_select.specs.Numbers.{start_label, row_words}
use Rattle.rv_select.specs.Program.{word_code}
use Rattle.rv_select.specs.Laws.{IsSelectable}

-- an assembler takes so many items, of which the first goes to the start; and the table has a row for each shape
pub record IsCounted (code : PeCode) : Type 0 where
  pub first : slice_get (items_of (word_code code)) 0 ≡ Some (FarTo start_label)
  pub items : length (items_of (word_code code)) ≤ 4194304
  pub table : length (word_code code).table ≡ code.shapes * row_words code

abbrev pub SelectionIsCounted : Type 0
SelectionIsCounted = (code : PeCode) → IsSelectable code → IsCounted code
