use Rattle.std.proofs.Common.{◌≡◌, ◌*◌, ◌<◌, ◌≤◌, ℕ, drop, Some}
use Rattle.std.specs.List.{slice_get}
use Rattle.rv_asm.specs.declared.items.Item.{Item}
use Rattle.rv_asm.specs.Planning.{AllReach, IsSmall}
use Rattle.rv_asm.proofs.Loops.{ItemsTo}
use Rattle.rv_asm.proofs.assembler.planned_words.Given as goal

abbrev pub invariant-loop-k : goal.invariant-loop-k
invariant-loop-k l = record {
  reach : AllReach l.plan.places.items l.here (drop l.k l.items) (drop l.k l.plan.choices.items);
  built : ItemsTo l.plan.places.items l.items l.plan.choices.items l.k l.here l.words.items;
  small : (j : ℕ) (item : Item) → j < l.k → slice_get l.items j ≡ Some item → IsSmall item;
  most : l.here ≤ 8 * l.k;
}
