use Rattle.std.proofs.Common.{◌≡◌, ◌<◌, ◌+◌, ◌*◌, ℕ, length}
use Rattle.fy_order.specs.Levels.{HaveAbove, HaveBelow, IsAt, PlainTagged, indexed_nodes, list_at, nodes}
use Rattle.fy_order.proofs.relation.+relation.Given as goal

abbrev pub decreases-covers_of : goal.decreases-covers_of
decreases-covers_of l = length l.a.now * 2

abbrev pub decreases-below : goal.decreases-below
decreases-below l = length l.a.now * 2 + 1

abbrev pub decreases-above : goal.decreases-above
decreases-above l = length l.a.now * 2 + 1

abbrev pub invariant-below-loop-place : goal.invariant-below-loop-place
invariant-below-loop-place l = record {
  long : length l.found.items ≡ l.place;
  have : (i : ℕ) → i < l.place → (u : PlainTagged) → IsAt (nodes l.b) i u → HaveBelow (indexed_nodes l.a) u (list_at l.found.items i);
}

abbrev pub invariant-above-loop-place : goal.invariant-above-loop-place
invariant-above-loop-place l = record {
  long : length l.found.items ≡ l.place;
  have : (i : ℕ) → i < l.place → (t : PlainTagged) → IsAt (nodes l.b) i t → HaveAbove (indexed_nodes l.a) t (list_at l.found.items i);
}
