use Rattle.std.proofs.Common.{◌≡◌, length}
use Rattle.fy_forms.proofs.kept.Places.new.Given as goal

abbrev pub invariant-loop : goal.invariant-loop
invariant-loop l = length l.lists.items ≡ l.counter
