use Rattle.std.proofs.Common.{ℕ, ◌<◌, ◌≡◌, length, get_or, Contains}
use Rattle.fy_order.specs.Levels.{list_at}
use Rattle.fy_order.proofs.index.own_each.Given as goal

abbrev pub invariant-loop-at : goal.invariant-loop-at
invariant-loop-at l = record {
  long : length l.owners.items ≡ length l.initial.owners.items;
  kept : (j k : ℕ) → Contains (list_at l.initial.owners.items j) k → Contains (list_at l.owners.items j) k;
  owned : (j : ℕ) → j < l.at-index → Contains (list_at l.owners.items (get_or l.inner j 0)) l.place;
}
