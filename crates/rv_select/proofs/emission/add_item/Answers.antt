use Rattle.std.proofs.Common.{◌<◌, ◌∙◌, length, arith}
use Rattle.rv_select.specs.Numbers.{label_of}
use Rattle.rv_select.specs.Emission.{blocks_at}
use Rattle.rv_select.proofs.Placed.{blocks_length}
use Rattle.rv_select.proofs.Emitted.{block_more}
use Rattle.rv_select.proofs.emission.add_item.Goals as goal

pub loop-number-preserved : goal.loop-number-preserved
loop-number-preserved c =
    let site = c.args.site.now in
    let count = blocks_length site.numbers.now site.address site.depth c.args.insn.now in
    let inside : c.loop-number.number < length (blocks_at site c.args.insn.now) = omega arith in
    block_more (label_of site.numbers.now site.address) c.loop-number.number c.label.result c.deref.result.now (blocks_at site c.args.insn.now) _ _ inside c.label.ensures.is
    (c.deref.ensures.value ∙ c.in_ok-make_block.ensures.made) c.in_ok-add.ensures
    ∙ c.loop-number.invariant
