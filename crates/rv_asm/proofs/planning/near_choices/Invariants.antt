use Rattle.std.proofs.Common.{◌≡◌, ◌*◌, ◌≤◌, take}
use Rattle.rv_asm.specs.Planning.{targets_of}
use Rattle.rv_asm.proofs.planning.near_choices.Given as goal

abbrev pub invariant-loop-k : goal.invariant-loop-k
invariant-loop-k l = record {
  targets : targets_of l.choices.items ≡ targets_of (take l.k l.far);
  most : l.here ≤ 8 * l.k;
}
