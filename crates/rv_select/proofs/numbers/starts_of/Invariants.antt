use Rattle.std.proofs.Common.{◌≡◌, ℕ, ◌+◌, ◌≤◌, length, Some}
use Rattle.std.specs.Prelude.{slice_get}
use Rattle.rv_select.specs.Numbering.{start_in}
use Rattle.rv_select.proofs.numbers.starts_of.Given as goal

abbrev pub invariant-loop-item : goal.invariant-loop-item
invariant-loop-item l = record {
  all : (a : ℕ) → a ≤ l.item-index → slice_get l.starts.items a ≡ Some (start_in l.items a);
  size : length l.starts.items ≡ l.item-index + 1;
  next : l.next ≡ start_in l.items l.item-index;
}
