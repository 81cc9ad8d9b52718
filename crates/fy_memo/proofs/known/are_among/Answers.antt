use Rattle.fy_forms.specs.Keys.{lent}
use Rattle.fy_memo.proofs.BaseLemmas.{taken-in}
use Rattle.fy_memo.proofs.known.are_among.Goals as goal

pub loop-path-preserved : goal.loop-path-preserved
loop-path-preserved c =
    taken-in c.args.missing.now c.loop-path.path-index c.path-item.result (lent c.args.others.now) c.loop-path-test.true c.path-item.is
    (c.is_among.ensures c.if-not-is_among.false) c.loop-path.invariant
