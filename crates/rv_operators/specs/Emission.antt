-- What is appended to items.
use Rattle.std.specs.Prelude.{◌≡◌, ℕ, List, ◌++◌}
use Rattle.rv_asm.specs.declared.items.Item.{Item}
use Rattle.rv_word.specs.declared.micros.Micro.{Micro}
use Rattle.rv_flow.specs.Lowering.{block_items, blocks_items}

-- a block, and blocks whose labels count up from one, in code with so many entries
pub record AddsBlock (entries label : ℕ) (micros : List Micro) (before after : List Item) : Type 0 where
  pub is : after ≡ before ++ block_items entries 0 label micros

pub record AddsBlocks (entries label : ℕ) (blocks : List (List Micro)) (before after : List Item) : Type 0 where
  pub is : after ≡ before ++ blocks_items entries 0 label blocks
