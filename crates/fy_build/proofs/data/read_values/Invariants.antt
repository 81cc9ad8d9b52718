use Rattle.std.proofs.Common.{ℕ, ◌<◌, slice_index_or}
use Rattle.std.specs.Option.{ForSome}
use Rattle.pe_code.specs.declared.code.PeItem.{PeItem}
use Rattle.rv_operators.specs.Laws.{IsDatum}
use Rattle.pe_code.specs.Code.{straight_of}
use Rattle.rv_straight.specs.Laws.{AreInRange}
use Rattle.rv_select.specs.Laws.{value_of}
use Rattle.fy_build.proofs.data.read_values.Given as goal

abbrev pub invariant-loop-item : goal.invariant-loop-item
invariant-loop-item l = record {
  values : (k : ℕ) (d : PeItem) → k < l.item-index → ForSome (value_of (slice_index_or l.items k d).insn) IsDatum;
  straight : (k : ℕ) (d : PeItem) → k < l.item-index → ForSome (straight_of (slice_index_or l.items k d).insn) AreInRange;
}
