use Rattle.std.proofs.Common.{arith}
use Rattle.rv_operators.proofs.Emitted.{if_ok, if_err, blocks_before, begins}
use Rattle.rv_operators.proofs.emission.operators.Goals as goal

pub returns-clause-ok : goal.returns-clause-ok
returns-clause-ok c = if_ok c.add_truths.result (λ last. (blocks_before c.in_ok-add_faults.ensures.ok (blocks_before c.in_ok-add_unary.ensures.ok (blocks_before c.in_ok-add_sums.ensures.ok (blocks_before c.in_ok-add_quotients.ensures.ok (blocks_before c.in_ok-add_equalities.ensures.ok (blocks_before c.in_ok-add_orders.ensures.ok last (omega arith)) (omega arith)) (omega arith)) (omega arith)) (omega arith)) (omega arith)).is) c.add_truths.ensures.ok

pub returns-clause-err : goal.returns-clause-err
returns-clause-err c = if_err c.add_truths.result (λ last. begins c.in_ok-add_faults.ensures.ok (begins c.in_ok-add_unary.ensures.ok (begins c.in_ok-add_sums.ensures.ok (begins c.in_ok-add_quotients.ensures.ok (begins c.in_ok-add_equalities.ensures.ok (begins c.in_ok-add_orders.ensures.ok last)))))) c.add_truths.ensures.err
