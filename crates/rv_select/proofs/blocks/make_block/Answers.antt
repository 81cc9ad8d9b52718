use Rattle.rv_select.proofs.Offsets.{main_from_nothing, block_from_nothing}
use Rattle.rv_select.proofs.Emitted.{if_ok}
use Rattle.rv_select.proofs.blocks.make_block.Goals as goal

pub returns-then-number-eq0-clause-near : goal.returns-then-number-eq0-clause-near
returns-then-number-eq0-clause-near c =
    let site = c.args.site.now in
    if_ok c.add_main.result (λ is. main_from_nothing site.numbers.now site.address site.depth c.args.insn.now _ _ c.requires.variable c.requires.straight c.clear.ensures.items is) c.add_main.ensures

pub returns-else-number-eq0-clause-near : goal.returns-else-number-eq0-clause-near
returns-else-number-eq0-clause-near c =
    let site = c.args.site.now in
    if_ok c.add_further.result
    (λ is. block_from_nothing site.numbers.now site.address site.depth c.args.insn.now c.args.number _ _ c.requires.variable c.requires.straight c.clear.ensures.items is) c.add_further.ensures
