use Rattle.std.proofs.Common.{◌≡◌, length}
use Rattle.fy_order.proofs.index.empty_lists.Given as goal

abbrev pub invariant-loop : goal.invariant-loop
invariant-loop l = length l.all.items ≡ l.counter
