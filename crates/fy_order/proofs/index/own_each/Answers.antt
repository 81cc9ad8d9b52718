use Rattle.std.proofs.Common.{◌∙◌, get_or, Contains, arith, below_more}
use Rattle.fy_order.specs.Levels.{list_at}
use Rattle.fy_order.proofs.IndexLemmas.{each-contained}
use Rattle.fy_order.proofs.index.own_each.Goals as goal

pub own-requires : goal.own-requires
own-requires c = omega (arith, c.requires c.loop-at.at-index 0 c.loop-at-test.true, c.loop-at.invariant.long)

pub loop-at-preserved : goal.loop-at-preserved
loop-at-preserved c =
    let inv = c.loop-at.invariant in
    let made = c.in_ok-own.ensures in
    record {
      long = made.long ∙ inv.long;
      kept = λ j k h. made.kept j k (inv.kept j k h);
      owned = below_more (λ j. Contains (list_at c.own.new.owners.items (get_or c.args.inner.now j 0)) c.args.place) c.loop-at.at-index
          (λ j lt. made.kept (get_or c.args.inner.now j 0) c.args.place (inv.owned j lt)) made.owned;
    }

pub returns-clause-owned : goal.returns-clause-owned
returns-clause-owned c =
    each-contained (λ j. Contains (list_at c.loop-at.owners.items j) c.args.place) c.args.inner.now (λ j lt. c.loop-at.invariant.owned j (omega arith))
