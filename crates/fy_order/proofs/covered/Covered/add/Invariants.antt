use Rattle.std.proofs.Common.{ℕ, ◌<◌, get_or, Contains}
use Rattle.fy_order.specs.Searching.{IsFlagged}
use Rattle.fy_order.proofs.covered.Covered.add.Given as goal

abbrev pub invariant-loop-place : goal.invariant-loop-place
invariant-loop-place l = record {
  flagged : IsFlagged l.self;
  kept : (k : ℕ) → Contains l.initial.self.places.items k → Contains l.self.places.items k;
  has : (j : ℕ) → j < l.place-index → Contains l.self.places.items (get_or l.list j 0);
}
