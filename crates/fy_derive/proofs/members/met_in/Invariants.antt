use Rattle.std.proofs.Common.{ℕ, take}
use Rattle.std.specs.List.{Contains}
use Rattle.fy_derive.proofs.members.met_in.Given as goal

abbrev pub invariant-loop-number : goal.invariant-loop-number
invariant-loop-number l = record {
  has : (k : ℕ) → Contains (take l.number-index l.list) k → Contains l.met.keys k;
  known : (k : ℕ) → Contains l.met.keys k → Contains (take l.number-index l.list) k;
}
