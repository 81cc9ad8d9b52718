-- What is selected for code.
use Rattle.std.specs.Prelude.{◌≡◌}
use Rattle.pe_code.specs.declared.code.PeCode.{PeCode}
use Rattle.rv_flow.specs.Lowering.{items_of}
use Rattle.rv_select.specs.declared.selection.Selected.{Selected}
use Rattle.rv_select.specs.Program.{word_code}

-- the items, the table and the places of the code for the word machine
pub record IsSelection (code : PeCode) (selected : Selected) : Type 0 where
  pub items : selected.items ≡ items_of (word_code code)
  pub table : selected.table ≡ (word_code code).table
  pub places : selected.places ≡ (word_code code).places
