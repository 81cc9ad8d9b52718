use Rattle.std.proofs.Common.{◌≡◌, drop}
use Rattle.fy_expand.specs.Measures.{grouped}
use Rattle.fy_expand.proofs.size.grouped.Given as goal

abbrev pub invariant-loop-size : goal.invariant-loop-size
invariant-loop-size l = grouped l.whole (drop l.size-index l.sizes) ≡ grouped l.fn.first l.sizes
