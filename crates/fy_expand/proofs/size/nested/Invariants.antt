use Rattle.std.proofs.Common.{◌≡◌, drop}
use Rattle.fy_expand.specs.Measures.{nested}
use Rattle.fy_expand.proofs.size.nested.Given as goal

abbrev pub invariant-loop-i : goal.invariant-loop-i
invariant-loop-i l = l.whole ≡ nested (drop l.i l.sizes) l.fn.body
