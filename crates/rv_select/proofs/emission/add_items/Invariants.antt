use Rattle.std.proofs.Common.{◌≡◌, ◌++◌, drop}
use Rattle.rv_flow.specs.Lowering.{blocks_items}
use Rattle.rv_select.specs.Numbers.{first_item, label_of}
use Rattle.rv_select.specs.Program.{item_blocks}
use Rattle.rv_select.proofs.emission.add_items.Given as goal

abbrev pub invariant-loop-address : goal.invariant-loop-address
invariant-loop-address l =
    l.items.items ++ blocks_items l.sizes.entries l.sizes.table_words (label_of l.numbers l.address) (item_blocks l.numbers l.address (drop l.address l.numbers.items))
    ≡ l.fn.items.items ++ blocks_items l.sizes.entries l.sizes.table_words first_item (item_blocks l.numbers 0 l.numbers.items)
