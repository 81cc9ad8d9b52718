use Rattle.std.proofs.Common.{sym, ◌∙◌}
use Rattle.std.proofs.lemmas.List.{at_drop_all}
use Rattle.fy_least.specs.Many.{blame_at_some}
use Rattle.fy_least.proofs.MadeLemmas.{blame-here, blame-later}
use Rattle.fy_least.proofs.many.blame_among.Goals as goal

pub returns-then-len-eq0 : goal.returns-then-len-eq0
returns-then-len-eq0 c =
    blame-here c.args.parts.now c.loop-part.part-index c.part-item.result c.args.at c.loop-part-test.true c.part-item.is
    (sym c.len.ensures ∙ c.if-len-eq0.true)
    ∙ c.loop-part.invariant

pub loop-part-preserved : goal.loop-part-preserved
loop-part-preserved c =
    blame-later c.args.parts.now c.loop-part.part-index c.part-item.result c.args.at c.loop-part-test.true c.part-item.is
    (λ e. c.if-len-eq0.false (c.len.ensures ∙ e))
    ∙ c.loop-part.invariant

pub returns : goal.returns
returns c =
    sym (at_drop_all (λ xs. blame_at_some xs c.args.at) c.args.parts.now c.loop-part.part-index c.loop-part-test.false) ∙ c.loop-part.invariant
