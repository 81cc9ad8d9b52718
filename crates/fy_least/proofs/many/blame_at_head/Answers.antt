use Rattle.std.proofs.Common.{◌∙◌}
use Rattle.fy_least.proofs.MadeLemmas.{none-first, some-first}
use Rattle.fy_least.proofs.many.blame_at_head.Goals as goal

pub returns-then-bodies-eq0 : goal.returns-then-bodies-eq0
returns-then-bodies-eq0 c = none-first c.args.bodies.now c.args.at c.if-bodies-eq0.true

pub returns-else-bodies-eq0 : goal.returns-else-bodies-eq0
returns-else-bodies-eq0 c =
    c.blame_or.ensures ∙ some-first c.args.bodies.now c.index-bodies-0.result c.args.at c.if-bodies-eq0.false c.index-bodies-0.is
