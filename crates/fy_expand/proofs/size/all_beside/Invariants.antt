use Rattle.std.proofs.Common.{◌≡◌, drop}
use Rattle.fy_expand.specs.Measures.{beside, all_beside, none}
use Rattle.fy_expand.proofs.size.all_beside.Given as goal

abbrev pub invariant-loop-size : goal.invariant-loop-size
invariant-loop-size l = record {
  total : beside l.whole (all_beside (drop l.size-index l.sizes)) ≡ all_beside l.sizes;
  fits : beside l.whole none ≡ l.whole;
}
