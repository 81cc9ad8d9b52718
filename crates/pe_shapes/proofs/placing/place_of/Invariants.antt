use Rattle.std.proofs.Common.{ℕ, ◌-◌, ◌<◌, ◌≡◌, length, get_or}
use Rattle.pe_shapes.proofs.placing.place_of.Given as goal

abbrev pub invariant-places : goal.invariant-places
invariant-places l = (k d : ℕ) → k < l.place → get_or l.order k d ≡ l.number → ⊥

abbrev pub decreases-places : goal.decreases-places
decreases-places l = length l.order - l.place
