use Rattle.std.proofs.Common.{ℕ, ◌<◌, ◌≡◌, length}
use Rattle.fy_order.proofs.IndexLemmas.{IsFound}
use Rattle.fy_order.proofs.index.index_by_one.Given as goal

abbrev pub invariant-loop-place : goal.invariant-loop-place
invariant-loop-place l = record {
  long : length l.owners.items ≡ l.count;
  found : (k : ℕ) → k < l.place → IsFound l.level.signs.items l.level.inner.items l.owners.items l.places k;
}
