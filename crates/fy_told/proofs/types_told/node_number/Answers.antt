use Rattle.std.proofs.Common.{sym, ◌∙◌}
use Rattle.fy_told.proofs.StepLemmas.{number-here}
use Rattle.fy_told.proofs.types_told.node_number.Goals as goal

pub returns-then-i-index : goal.returns-then-i-index
returns-then-i-index c =
    sym (number-here c.args.items.now c.loop-i.i c.args.index c.loop-i.number c.loop-i-test.true c.if-i-index.true) ∙ c.loop-i.invariant.same
