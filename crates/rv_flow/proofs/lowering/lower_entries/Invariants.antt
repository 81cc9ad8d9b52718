use Rattle.std.proofs.Common.{◌≡◌, ◌++◌, drop}
use Rattle.rv_flow.specs.Lowering.{entry_items}
use Rattle.rv_flow.specs.Emission.{Extends}
use Rattle.rv_flow.proofs.lowering.lower_entries.Given as goal

abbrev pub invariant-loop-label : goal.invariant-loop-label
invariant-loop-label l = record {
  rest : l.items.items ++ entry_items (drop l.label-index l.labels) ≡ l.fn.items.items ++ entry_items l.labels;
  old : Extends l.fn.items.items l.items.items;
}
