use Rattle.std.proofs.Common.{IfSome, Contains}
use Rattle.fy_order.proofs.relation.shortest.Given as goal

abbrev pub invariant-loop-place : goal.invariant-loop-place
invariant-loop-place l = IfSome l.best (Contains l.places)
