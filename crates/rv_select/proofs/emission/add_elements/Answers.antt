use Rattle.std.proofs.Common.{arith}
use Rattle.rv_select.proofs.Emitted.{if_ok, blocks_before, same_blocks}
use Rattle.rv_select.proofs.emission.add_elements.Goals as goal

pub returns : goal.returns
returns c =
    λ code. if_ok c.add-3.result
    (λ last.
    same_blocks
    (blocks_before c.in_ok-add_element.ensures (blocks_before c.in_ok-add_element-2.ensures (blocks_before c.in_ok-add.ensures (blocks_before c.in_ok-add-2.ensures last (omega arith)) (omega arith)) (omega arith)) (omega arith))
    (cc))
    c.add-3.ensures
