use Rattle.std.proofs.Common.{sym, ◌∙◌}
use Rattle.fy_least.proofs.BlameLemmas.{not-blamed}
use Rattle.fy_least.proofs.found.Found.blame_or.Goals as goal

pub returns-else-len-eq0 : goal.returns-else-len-eq0
returns-else-len-eq0 c =
    sym (not-blamed c.args.self.now.paths c.args.self.now.blame c.args.place (λ e. c.if-len-eq0.false (c.len.ensures ∙ e)))
