use Rattle.std.proofs.Common.{◌≡◌, length}
use Rattle.fy_derive.specs.Standing.{plain_kind}
use Rattle.fy_derive.specs.Clear.{AreEmpty, AreClear}
use Rattle.fy_derive.proofs.kind.none_begins.Given as goal

abbrev pub invariant-loop-k : goal.invariant-loop-k
invariant-loop-k l = record {
  sizes : length l.empty.items ≡ l.k;
  sizes_too : length l.clear.items ≡ l.k;
  empty : AreEmpty l.table l.empty.items;
  clear : AreClear (plain_kind l.demand) l.table l.clear.items;
}
