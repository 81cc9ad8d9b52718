use Rattle.std.proofs.Common.{get_or, Contains, arith, below_more}
use Rattle.fy_types.proofs.Steps.{not_so}
use Rattle.fy_order.proofs.IndexLemmas.{each-contained}
use Rattle.fy_order.proofs.covered.Covered.has_any.Goals as goal

pub loop-place-preserved : goal.loop-place-preserved
loop-place-preserved c =
    below_more (λ j. Contains c.args.self.now.places.items (get_or c.args.list.now j 0) → ⊥) c.loop-place.place-index
    c.loop-place.invariant (λ h. not_so c.if-has.false c.has.ensures.1 h)

pub returns : goal.returns
returns c k listed has =
    absurd (each-contained (λ n. Contains c.args.self.now.places.items n → ⊥) c.args.list.now
    (λ j lt. c.loop-place.invariant j (omega arith)) k listed has)
