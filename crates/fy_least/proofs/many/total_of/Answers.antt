use Rattle.std.proofs.Common.{◌+◌, arith}
use Rattle.std.proofs.lemmas.Result.{err_from_is_err_and}
use Rattle.fy_least.proofs.MadeLemmas.{total-more, total-all, total-low}
use Rattle.fy_least.proofs.many.total_of.Goals as goal

pub returns-in_err-total-clause-large : goal.returns-in_err-total-clause-large
returns-in_err-total-clause-large c =
    let p = err_from_is_err_and c.from_residual.result c.from_residual.ensures.1 in
    let more = total-more c.args.parts.now c.loop-part.part-index c.part-item.result c.loop-part-test.true c.part-item.is in
    let low = total-low c.args.parts.now (c.loop-part.part-index + 1) in
    rw (p.1, p.2) (λ e. let many = c.in_err-total.ensures.large e in omega (arith, more, low, many, c.loop-part.invariant.sum))

pub loop-part-preserved : goal.loop-part-preserved
loop-part-preserved c =
    let more = total-more c.args.parts.now c.loop-part.part-index c.part-item.result c.loop-part-test.true c.part-item.is in
    record {
      sum = omega (arith, more, c.in_ok-total.ensures.sum, c.loop-part.invariant.sum);
      low = c.in_ok-total.ensures.low;
    }

pub returns-clause-sum : goal.returns-clause-sum
returns-clause-sum c = omega (arith, total-all c.args.parts.now c.loop-part.part-index c.loop-part-test.false, c.loop-part.invariant.sum)
