use Rattle.std.proofs.Common.{◌≡◌, ◌*◌, ◌≤◌, ◌++◌, drop}
use Rattle.rv_asm.specs.Planning.{places_of}
use Rattle.rv_asm.proofs.planning.places.Given as goal

abbrev pub invariant-loop-k : goal.invariant-loop-k
invariant-loop-k l = record {
  rest : l.places.items ++ places_of l.here (drop l.k l.items) (drop l.k l.choices) ≡ places_of 0 l.items l.choices;
  most : l.here ≤ 8 * l.k;
}
