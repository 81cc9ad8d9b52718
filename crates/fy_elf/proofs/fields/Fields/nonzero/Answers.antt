use Rattle.std.proofs.Common.{◌<◌, arith}
use Rattle.std.proofs.lemmas.Result.{err_from_is_err_and}
use Rattle.fy_elf.proofs.Judging.{nonzero_cut, nonzero_passed, nonzero_zero}
use Rattle.fy_elf.proofs.fields.Fields.nonzero.Goals as goal

pub returns-in_err-n-clause-judged : goal.returns-in_err-n-clause-judged
returns-in_err-n-clause-judged c =
    let p = err_from_is_err_and c.from_residual.result c.from_residual.ensures.1 in
    let cut = c.in_err-n.ensures.cut in
    rw (p.1, p.2) (nonzero_cut c.in_err-n.field-0.0 c.args.self.now cut.0 cut.1)

pub returns-then-n-eq0-clause-judged : goal.returns-then-n-eq0-clause-judged
returns-then-n-eq0-clause-judged c = nonzero_zero c.in_ok-n.n c.args.self.now _ _ c.in_ok-n.ensures.taken c.if-n-eq0.true c.offset-offset.ensures

pub returns-clause-judged : goal.returns-clause-judged
returns-clause-judged c =
    let some : 0 < c.in_ok-n.n = omega arith in
    nonzero_passed c.in_ok-n.n c.args.self.now _ c.in_ok-n.ensures.taken some c.in_ok-n.ensures.fits
