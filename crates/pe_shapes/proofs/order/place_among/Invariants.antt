use Rattle.std.proofs.Common.{ℕ, ◌≡◌, ◌<◌, ◌≤◌, ◌-◌, true, length, get_or}
use Rattle.pe_shapes.specs.Order.{comes_before}
use Rattle.pe_shapes.specs.Shown.{shown}
use Rattle.pe_shapes.proofs.order.place_among.Given as goal

abbrev pub invariant-halves : goal.invariant-halves
invariant-halves l = record {
  inside : l.low ≤ l.high;
  within : l.high ≤ length l.order;
  before : (k d : ℕ) → k < l.low → comes_before (shown l.numbers (get_or l.order k d)) (shown l.numbers l.number) ≡ true;
  behind : (k d : ℕ) → l.high ≤ k → k < length l.order → comes_before (shown l.numbers l.number) (shown l.numbers (get_or l.order k d)) ≡ true;
}

abbrev pub decreases-halves : goal.decreases-halves
decreases-halves l = l.high - l.low
