use Rattle.std.proofs.Common.{ℕ, ◌<◌, get_or, Contains}
use Rattle.fy_order.proofs.covered.Covered.has_any.Given as goal

abbrev pub invariant-loop-place : goal.invariant-loop-place
invariant-loop-place l = (j : ℕ) → j < l.place-index → Contains l.self.places.items (get_or l.list j 0) → ⊥
