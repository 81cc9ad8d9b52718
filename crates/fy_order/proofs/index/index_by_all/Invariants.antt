use Rattle.std.proofs.Common.{ℕ, ◌<◌, ◌≡◌, length, get_or, Contains}
use Rattle.fy_order.specs.Levels.{list_at, places_at}
use Rattle.fy_order.proofs.index.index_by_all.Given as goal

abbrev pub invariant-loop-place : goal.invariant-loop-place
invariant-loop-place l = record {
  long : length l.owners.items ≡ l.count;
  signed : (k : ℕ) → k < l.place → Contains (places_at l.places (get_or l.level.signs.items k 0)) k;
  owned : (k j : ℕ) → k < l.place → Contains (list_at l.level.inner.items k) j → Contains (list_at l.owners.items j) k;
}
