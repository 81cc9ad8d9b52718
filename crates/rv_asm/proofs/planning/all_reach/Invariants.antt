use Rattle.std.proofs.Common.{◌*◌, ◌≤◌, drop}
use Rattle.rv_asm.specs.Planning.{AllReach}
use Rattle.rv_asm.proofs.planning.all_reach.Given as goal

abbrev pub invariant-loop-k : goal.invariant-loop-k
invariant-loop-k l = record {
  rest : AllReach l.places l.here (drop l.k l.items) (drop l.k l.choices) → AllReach l.places 0 l.items l.choices;
  most : l.here ≤ 8 * l.k;
}
