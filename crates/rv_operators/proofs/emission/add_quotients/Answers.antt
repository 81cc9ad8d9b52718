use Rattle.std.proofs.Common.{arith}
use Rattle.rv_operators.proofs.Emitted.{if_ok, last_block, block_before}
use Rattle.rv_operators.proofs.emission.add_quotients.Goals as goal

pub returns-clause-ok : goal.returns-clause-ok
returns-clause-ok c = if_ok c.add_remainder.result (λ last. block_before c.in_ok-add_quotient.ensures.ok (block_before c.in_ok-add_by_minus_one.ensures.ok (last_block last) (omega arith)) (omega arith)) c.add_remainder.ensures.ok
