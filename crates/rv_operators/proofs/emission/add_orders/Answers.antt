use Rattle.std.proofs.Common.{arith}
use Rattle.rv_operators.proofs.Emitted.{if_ok, last_block, block_before}
use Rattle.rv_operators.proofs.emission.add_orders.Goals as goal

pub returns-clause-ok : goal.returns-clause-ok
returns-clause-ok c = if_ok c.add_at_least.result (λ last. block_before c.in_ok-add_less.ensures.ok (block_before c.in_ok-add_at_most.ensures.ok (block_before c.in_ok-add_greater.ensures.ok (last_block last) (omega arith)) (omega arith)) (omega arith)) c.add_at_least.ensures.ok
