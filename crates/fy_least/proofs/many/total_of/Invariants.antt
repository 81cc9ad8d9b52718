use Rattle.std.proofs.Common.{◌≡◌, ◌+◌, ◌≤◌, take}
use Rattle.fy_least.specs.Limits.{most_together}
use Rattle.fy_least.specs.Many.{total_of}
use Rattle.fy_least.proofs.many.total_of.Given as goal

abbrev pub invariant-loop-part : goal.invariant-loop-part
invariant-loop-part l = record {
  sum : l.total ≡ l.more + total_of (take l.part-index l.parts);
  low : l.total ≤ most_together;
}
