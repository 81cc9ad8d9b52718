use Rattle.std.proofs.Common.{ℕ, ◌⊎◌, take}
use Rattle.std.specs.List.{Contains}
use Rattle.pe_shapes.proofs.sets.add_all.Given as goal

abbrev pub invariant-loop-number : goal.invariant-loop-number
invariant-loop-number l = record {
  kept : (k : ℕ) → Contains l.fn.met.keys k → Contains l.met.keys k;
  has : (k : ℕ) → Contains (take l.number-index l.set) k → Contains l.met.keys k;
  known : (k : ℕ) → Contains l.met.keys k → Contains l.fn.met.keys k ⊎ Contains (take l.number-index l.set) k;
}
