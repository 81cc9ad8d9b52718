use Rattle.std.proofs.Common.{subst}
use Rattle.fy_types.specs.PathOrder.{IsPathBelow}
use Rattle.fy_types.specs.Reading.{plain_path}
use Rattle.fy_types.proofs.Order.{IsPathBelow-refl}
use Rattle.fy_order.proofs.alike.are_alike.Goals as goal

pub returns-then-is_same_path-clause-low : goal.returns-then-is_same_path-clause-low
returns-then-is_same_path-clause-low c r =
    subst (λ x. IsPathBelow (plain_path c.args.p.now) x) (c.is_same_path.ensures.0 r) (IsPathBelow-refl (plain_path c.args.p.now))

pub returns-then-is_same_path-clause-high : goal.returns-then-is_same_path-clause-high
returns-then-is_same_path-clause-high c r =
    subst (λ x. IsPathBelow x (plain_path c.args.p.now)) (c.is_same_path.ensures.0 r) (IsPathBelow-refl (plain_path c.args.p.now))
