-- What is appended to blocks and to items.
use Rattle.std.specs.Prelude.{◌≡◌, ℕ, ◌≤◌, List, ◌++◌, length, All}
use Rattle.pe_code.specs.declared.code.PeInsn.{PeInsn}
use Rattle.pe_code.specs.declared.code.PeCode.{PeCode}
use Rattle.pe_code.specs.declared.code.StraightPart.{StraightPart}
use Rattle.rv_asm.specs.declared.items.Item.{Item}
use Rattle.rv_word.specs.declared.micros.Micro.{Micro}
use Rattle.rv_flow.specs.Lowering.{blocks_items}
use Rattle.rv_straight.specs.Laws.{IsNear}
use Rattle.rv_select.specs.declared.sites.Site.{Site}
use Rattle.rv_select.specs.declared.emission.Sizes.{Sizes}
use Rattle.rv_select.specs.Blocks.{blocks_of, entries_of}

-- a part of a block, made for the code, the address of the item and its depth
abbrev pub Adds : Site → (PeCode → ℕ → ℕ → List Micro) → List Micro → List Micro → Type 0
Adds site part old new = new ≡ old ++ part site.numbers.now site.address site.depth

-- straight code that is short and whose cells are near
pub record IsSmallStraight (ss : List StraightPart) : Type 0 where
  pub short : length ss ≤ 16
  pub near : All IsNear ss

-- the blocks and the entries of an instruction
abbrev pub blocks_at : Site → PeInsn → List (List Micro)
blocks_at site i = blocks_of site.numbers.now site.address site.depth i

abbrev pub entries_at : Site → PeInsn → List ℕ
entries_at site i = entries_of site.numbers.now site.address site.depth i

-- blocks whose labels count up from one
pub record AddsBlocks (sizes : Sizes) (label : ℕ) (blocks : List (List Micro)) (old new : List Item) : Type 0 where
  pub is : new ≡ old ++ blocks_items sizes.entries sizes.table_words label blocks
