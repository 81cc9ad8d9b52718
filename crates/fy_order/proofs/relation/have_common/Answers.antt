use Rattle.std.proofs.Common.{get_or, Contains, arith, below_more}
use Rattle.fy_types.proofs.Steps.{not_so}
use Rattle.fy_order.proofs.IndexLemmas.{each-contained}
use Rattle.fy_order.proofs.relation.have_common.Goals as goal

pub loop-number-preserved : goal.loop-number-preserved
loop-number-preserved c =
    below_more (λ j. Contains c.args.first.now (get_or c.args.second.now j 0) → ⊥) c.loop-number.number-index
    c.loop-number.invariant (λ h. not_so c.if-is_in.false c.is_in.ensures.1 h)

pub returns : goal.returns
returns c k listed has =
    absurd (each-contained (λ n. Contains c.args.first.now n → ⊥) c.args.second.now
    (λ j lt. c.loop-number.invariant j (omega arith)) k has listed)
