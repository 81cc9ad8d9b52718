use Rattle.std.proofs.Common.{sym, ◌∙◌}
use Rattle.fy_read.proofs.TextLemmas.{is-here, is-later}
use Rattle.fy_read.proofs.words.any_is.Goals as goal

pub returns-then-eq : goal.returns-then-eq
returns-then-eq c =
    sym (is-here c.args.text.now c.args.texts.now c.loop-other.other-index _ c.loop-other-test.true (sym c.if-eq.ensures))
    ∙ c.loop-other.invariant

pub loop-other-preserved : goal.loop-other-preserved
loop-other-preserved c =
    sym (is-later c.args.text.now c.args.texts.now c.loop-other.other-index _ c.loop-other-test.true (sym c.if-eq.ensures))
    ∙ c.loop-other.invariant
