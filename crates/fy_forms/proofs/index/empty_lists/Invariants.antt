use Rattle.std.proofs.Common.{ℕ, ◌≡◌, [], length}
use Rattle.fy_forms.specs.Keys.{list_at}
use Rattle.fy_forms.proofs.index.empty_lists.Given as goal

abbrev pub invariant-loop : goal.invariant-loop
invariant-loop l = record { long : length l.all.items ≡ l.counter; each : (k : ℕ) → list_at l.all.items k ≡ [] }
