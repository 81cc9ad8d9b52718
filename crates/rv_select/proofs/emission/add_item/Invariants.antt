use Rattle.std.proofs.Common.{◌≡◌, ◌+◌, ◌++◌, drop}
use Rattle.rv_flow.specs.Lowering.{blocks_items}
use Rattle.rv_select.specs.Numbers.{label_of}
use Rattle.rv_select.specs.Emission.{blocks_at}
use Rattle.rv_select.proofs.emission.add_item.Given as goal

abbrev pub invariant-loop-number : goal.invariant-loop-number
invariant-loop-number l =
    l.items.items ++ blocks_items l.sizes.entries l.sizes.table_words (label_of l.site.numbers.now l.site.address + l.number) (drop l.number (blocks_at l.site l.insn))
    ≡ l.fn.items.items ++ blocks_items l.sizes.entries l.sizes.table_words (label_of l.site.numbers.now l.site.address) (blocks_at l.site l.insn)
