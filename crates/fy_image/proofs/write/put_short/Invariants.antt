use Rattle.std.proofs.Common.{◌≡◌, ◌<◌, ◌++◌}
use Rattle.fy_image.specs.Form.{short}
use Rattle.fy_image.proofs.write.put_short.Given as goal

abbrev pub invariant-loop-left : goal.invariant-loop-left
invariant-loop-left l = record {
  some : 0 < l.left;
  put : l.initial.bytes.items ++ short l.n ≡ l.bytes.items ++ short l.left;
}

abbrev pub decreases-loop-left : goal.decreases-loop-left
decreases-loop-left l = l.left
