use Rattle.std.proofs.Common.{◌<◌, ℕ, get_or, Contains}
use Rattle.fy_order.proofs.SearchLemmas.{IsHigh}
use Rattle.fy_order.proofs.relation.add_high.Given as goal

abbrev pub invariant-loop-place : goal.invariant-loop-place
invariant-loop-place l = record {
  kept : (k : ℕ) → Contains l.initial.found.items k → Contains l.found.items k;
  has : (j : ℕ) → j < l.place-index → IsHigh l.level l.wanted l.domains.0.now l.domains.1.now l.found.items (get_or l.list j 0);
}
