use Rattle.std.proofs.Common.{◌≡◌, ℕ, ◌<◌, true, leb, get_or}
use Rattle.fy_image.proofs.short.short_size.Given as goal

abbrev pub invariant-loop-k : goal.invariant-loop-k
invariant-loop-k l = (i : ℕ) → i < l.k → leb 128 (get_or l.start i 0) ≡ true
