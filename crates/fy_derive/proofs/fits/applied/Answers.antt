use Rattle.std.proofs.Common.{sym, arith}
use Rattle.fy_derive.specs.Shown.{shown}
use Rattle.fy_derive.proofs.RuleLemmas.{applied-apart}
use Rattle.fy_derive.proofs.fits.applied.Goals as goal

pub returns-else-domain-argument-clause-shown : goal.returns-else-domain-argument-clause-shown
returns-else-domain-argument-clause-shown c =
    sym (applied-apart c.args.table.now (shown c.args.table.now c.args.procedure) c.in-Arrow.domain c.in-Arrow.rest c.args.argument c.in-Arrow.ensures.stands
    (omega (arith, c.in-Arrow.ensures.parts, c.requires.procedure)) c.requires.argument c.if-domain-argument.false)
