use Rattle.std.proofs.Common.{arith}
use Rattle.rv_select.proofs.Emitted.{if_ok, blocks_before, same_blocks}
use Rattle.rv_select.proofs.emission.add_output.Goals as goal

pub returns : goal.returns
returns c =
    λ code. if_ok c.add_answered-4.result
    (λ last. same_blocks (blocks_before c.in_ok-add_answered.ensures (blocks_before c.in_ok-add_answered-2.ensures (blocks_before c.in_ok-add_answered-3.ensures last (omega arith)) (omega arith)) (omega arith)) (cc))
    c.add_answered-4.ensures
