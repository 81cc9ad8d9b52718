use Rattle.std.proofs.Common.{ℕ, ◌<◌, get_or, Contains}
use Rattle.fy_order.specs.Levels.{list_at}
use Rattle.fy_order.specs.Searching.{IsFlagged}
use Rattle.fy_order.proofs.covered.Covered.by.Given as goal

abbrev pub invariant-loop-place : goal.invariant-loop-place
invariant-loop-place l = record {
  flagged : IsFlagged l.all;
  has : (j k : ℕ) → j < l.place-index → Contains (list_at l.lists (get_or l.places j 0)) k → Contains l.all.places.items k;
}
