use Rattle.std.proofs.Common.{◌<◌, ℕ, get_or, Contains}
use Rattle.fy_order.proofs.SearchLemmas.{IsTaken}
use Rattle.fy_order.proofs.relation.add_low.Given as goal

abbrev pub invariant-loop-place : goal.invariant-loop-place
invariant-loop-place l = record {
  kept : (k : ℕ) → Contains l.initial.found.items k → Contains l.found.items k;
  has : (j : ℕ) → j < l.place-index → IsTaken l.level l.wanted l.covered.places.items l.found.items (get_or l.list j 0);
}
