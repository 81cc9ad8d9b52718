use Rattle.std.proofs.Common.{arith}
use Rattle.rv_select.proofs.Emitted.{if_ok, blocks_before}
use Rattle.rv_select.proofs.emission.add_blocks.Goals as goal

pub returns : goal.returns
returns c =
    let numbers = c.args.numbers.now in
    if_ok c.add_items.result
    (λ last.
    blocks_before c.in_ok-add_callers.ensures
    (blocks_before c.in_ok-add_routines.ensures
    (blocks_before c.in_ok-add_operators.ensures
    (blocks_before c.in_ok-add_ends.ensures
    (blocks_before (c.in_ok-add_bindings.ensures numbers)
    (blocks_before (c.in_ok-add_output.ensures numbers)
    (blocks_before (c.in_ok-add_counts.ensures numbers)
    (blocks_before (c.in_ok-add_filling.ensures numbers)
    (blocks_before (c.in_ok-add_elements.ensures numbers)
    (blocks_before c.in_ok-add_index.ensures
    (blocks_before c.in_ok-add_index-2.ensures last (omega arith)) (omega arith)) (omega arith)) (omega arith)) (omega arith)) (omega arith)) (omega arith)) (omega arith)) (omega arith)) (omega arith)) (omega arith))
    c.add_items.ensures
