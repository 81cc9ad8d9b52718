use Rattle.std.proofs.Common.{get_or, Contains, arith, below_more}
use Rattle.fy_order.proofs.IndexLemmas.{each-contained}
use Rattle.fy_order.proofs.covered.Covered.add.Goals as goal

pub loop-place-preserved : goal.loop-place-preserved
loop-place-preserved c =
    let inv = c.loop-place.invariant in
    let made = c.in_ok-add_one.ensures in
    record {
      flagged = made.flagged;
      kept = λ k h. made.kept k (inv.kept k h);
      has = below_more (λ j. Contains c.add_one.new.self.places.items (get_or c.args.list.now j 0)) c.loop-place.place-index
          (λ j lt. made.kept (get_or c.args.list.now j 0) (inv.has j lt)) made.has;
    }

pub returns-clause-has : goal.returns-clause-has
returns-clause-has c =
    each-contained (Contains c.loop-place.self.places.items) c.args.list.now (λ j lt. c.loop-place.invariant.has j (omega arith))
