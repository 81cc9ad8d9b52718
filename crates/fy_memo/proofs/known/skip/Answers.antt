use Rattle.std.proofs.Common.{arith}
use Rattle.fy_forms.specs.Keys.{lent}
use Rattle.fy_memo.proofs.BaseLemmas.{skipped-more}
use Rattle.fy_memo.proofs.known.skip.Goals as goal

pub loop-place-preserved : goal.loop-place-preserved
loop-place-preserved c = (
  rw c.in_ok-push.ensures.items
      (skipped-more c.args.wanted.now c.args.from c.loop-place.place (lent c.args.missing.now.items) c.loop-place.missing.items _
      (omega (arith, c.loop-place-test.true, c.requires.to)) c.index-wanted-place.is c.loop-place.invariant.0),
  omega (arith, c.loop-place-test.true),
)
