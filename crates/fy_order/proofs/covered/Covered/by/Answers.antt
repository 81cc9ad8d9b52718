use Rattle.std.proofs.Common.{get_or, Contains, sym, subst, arith, below_more}
use Rattle.fy_order.specs.Levels.{list_at}
use Rattle.fy_order.proofs.IndexLemmas.{each-contained}
use Rattle.fy_order.proofs.covered.Covered.by.Goals as goal

pub loop-place-preserved : goal.loop-place-preserved
loop-place-preserved c =
    let inv = c.loop-place.invariant in
    let made = c.in_ok-add.ensures in
    let lists = c.args.lists.now in
    let places = c.args.places.now in
    record {
      flagged = made.flagged;
      has = λ j k lt. below_more (λ n. Contains (list_at lists (get_or places n 0)) k → Contains c.add.new.self.places.items k) c.loop-place.place-index
          (λ n less h. made.kept k (inv.has n k less h))
          (λ h. made.has k (subst (λ xs. Contains xs k) (sym c.list_at.ensures) h)) j lt;
    }

pub returns-clause-has : goal.returns-clause-has
returns-clause-has c j k =
    λ place. each-contained (λ n. Contains (list_at c.args.lists.now n) k → Contains c.loop-place.all.places.items k) c.args.places.now
    (λ i lt. c.loop-place.invariant.has i k (omega arith)) j place
