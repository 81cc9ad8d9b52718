use Rattle.std.proofs.Common.{◌≡◌, Contains, IfSome, IfNone}
use Rattle.fy_order.proofs.index.rarest.Given as goal

abbrev pub invariant-loop-place : goal.invariant-loop-place
invariant-loop-place l = record {
  some : IfSome l.best (Contains l.places);
  none : IfNone l.best (l.place-index ≡ 0);
}
