use Rattle.std.proofs.Common.{arith}
use Rattle.fy_copy.proofs.Forms.{standing_finished}
use Rattle.fy_copy.proofs.copier.is_at_end.Goals as goal

pub returns-in-Skip : goal.returns-in-Skip
returns-in-Skip c = standing_finished c.args.core.now.focus c.in-Skip.field-0 c.args.core.now.contexts.items c.is_empty.result c.args.core.now.contexts.len c.in-Skip.is c.is_empty.ensures (omega (arith, c.args.core.now.contexts.ok.0))
