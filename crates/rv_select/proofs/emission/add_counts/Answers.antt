use Rattle.std.proofs.Common.{arith}
use Rattle.rv_select.proofs.Emitted.{if_ok, blocks_before, same_blocks}
use Rattle.rv_select.proofs.emission.add_counts.Goals as goal

pub returns : goal.returns
returns c = λ code. if_ok c.add-2.result (λ last. same_blocks (blocks_before c.in_ok-add.ensures last (omega arith)) (cc)) c.add-2.ensures
