use Rattle.std.proofs.Common.{ℕ, ◌<◌, get_or, Contains}
use Rattle.fy_order.proofs.relation.have_common.Given as goal

-- none of the numbers so far is in the first list
abbrev pub invariant-loop-number : goal.invariant-loop-number
invariant-loop-number l = (j : ℕ) → j < l.number-index → Contains l.first (get_or l.second j 0) → ⊥
