use Rattle.std.proofs.Common.{◌≡◌, ◌++◌, drop}
use Rattle.rv_flow.specs.Lowering.{micro_items}
use Rattle.rv_flow.specs.Emission.{Extends}
use Rattle.rv_flow.proofs.lowering.lower_all.Given as goal

abbrev pub invariant-loop-micro : goal.invariant-loop-micro
invariant-loop-micro l = record {
  rest : l.items.items ++ micro_items l.entries l.table_words (drop l.micro-index l.micros) ≡ l.fn.items.items ++ micro_items l.entries l.table_words l.micros;
  old : Extends l.fn.items.items l.items.items;
}
