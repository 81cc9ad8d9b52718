use Rattle.std.proofs.Common.{◌<◌, length, arith}
use Rattle.rv_straight.proofs.Emitted.{fault_shown, if_ok}
use Rattle.rv_straight.proofs.faults.add_fault_block.Goals as goal

pub returns-then-left-count : goal.returns-then-left-count
returns-then-left-count c =
    let count = c.fault_count_of-count.ensures.blocks in
    let less = c.if-left-count.true in
    if_ok c.add_fault_of.result
    (λ shown. fault_shown c.args.parts.now c.loop-part.part-index _ c.loop-part.left c.args.number c.args.block.now.items c.loop-part.block.items c.add_fault_of.new.block.items c.loop-part-test.true (omega arith)
    c.loop-part.invariant.is c.loop-part.invariant.same shown)
    c.add_fault_of.ensures
