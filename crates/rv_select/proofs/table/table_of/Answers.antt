use Rattle.std.proofs.Common.{ap}
use Rattle.pe_code.specs.declared.code.PeCode.{PeCode}
use Rattle.rv_select.proofs.NumberingLemmas.{rows_more}
use Rattle.rv_select.proofs.table.table_of.Goals as goal

pub loop-shape-preserved : goal.loop-shape-preserved
loop-shape-preserved c =
    rows_more c.args.numbers.now c.loop-shape.shape c.code.result.now.shapes c.loop-shape.words.items _ _ c.loop-shape-test.true (ap (λ (code : PeCode). code.shapes) c.code.ensures.same) c.loop-shape.invariant c.in_ok-add_row.ensures
