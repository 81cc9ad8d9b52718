use Rattle.std.proofs.Common.{◌<◌, ℕ, get_or, Contains}
use Rattle.fy_order.specs.Levels.{list_at, places_at}
use Rattle.fy_order.proofs.SearchLemmas.{IsTaken}
use Rattle.fy_order.proofs.relation.found_below.Given as goal

-- those so far, by their sign or by one in their domains
abbrev pub invariant-loop-place : goal.invariant-loop-place
invariant-loop-place l = record {
  own : (k : ℕ) → Contains (places_at l.index.places l.wanted.own) k → IsTaken l.level l.wanted l.place-items l.found.items k;
  other : (k : ℕ) → Contains (places_at l.index.places l.wanted.other) k → IsTaken l.level l.wanted l.place-items l.found.items k;
  owners : (j : ℕ) → j < l.place-index → (k : ℕ) → Contains (list_at l.index.owners.items (get_or l.place-items j 0)) k → IsTaken l.level l.wanted l.place-items l.found.items k;
}
