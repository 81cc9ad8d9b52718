use Rattle.std.proofs.Common.{◌≡◌, drop}
use Rattle.fy_image.specs.Refusals.{grouped}
use Rattle.fy_image.proofs.short.grouped.Given as goal

abbrev pub invariant-loop-k : goal.invariant-loop-k
invariant-loop-k l = l.n ≡ grouped (drop l.k l.bytes)
