use Rattle.fy_read.proofs.PassLemmas.{on_err, plain_passes}
use Rattle.fy_read.proofs.read.Reader.sign.Goals as goal

pub returns-in-Bracket-clause-limits : goal.returns-in-Bracket-clause-limits
returns-in-Bracket-clause-limits c = on_err c.bracket.result (λ e p loose names text h. plain_passes _ e p) c.bracket.ensures.plain

pub returns-in-Colon-clause-limits : goal.returns-in-Colon-clause-limits
returns-in-Colon-clause-limits c = on_err c.colon.result (λ e p loose names text h. plain_passes _ e p) c.colon.ensures.plain
