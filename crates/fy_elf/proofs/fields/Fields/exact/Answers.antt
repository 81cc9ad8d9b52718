use Rattle.std.proofs.Common.{length, arith, ◌<◌}
use Rattle.std.proofs.lemmas.Result.{err_from_is_err_and}
use Rattle.fy_elf.proofs.Judging.{exact_eq, exact_ne, exact_cut}
use Rattle.fy_elf.proofs.fields.Fields.exact.Goals as goal

pub returns-in_err-part-clause-judged : goal.returns-in_err-part-clause-judged
returns-in_err-part-clause-judged c =
    let p = err_from_is_err_and c.from_residual.result c.from_residual.ensures.1 in
    let cut = c.in_err-part.ensures.cut in
    let short : length c.args.self.now.bytes < length c.args.bytes.now = omega (arith, cut.1) in
    rw (p.1, p.2) (exact_cut c.in_err-part.field-0.0 c.args.bytes.now c.args.self.now cut.0 short)

pub returns-then-eq-clause-judged : goal.returns-then-eq-clause-judged
returns-then-eq-clause-judged c = exact_eq c.args.bytes.now _ _ c.args.self.now _ c.eq.ensures c.if-eq.true c.in_ok-part.ensures.taken

pub returns-else-eq-clause-judged : goal.returns-else-eq-clause-judged
returns-else-eq-clause-judged c = exact_ne c.args.bytes.now _ _ c.args.self.now _ _ c.eq.ensures c.if-eq.false c.in_ok-part.ensures.taken c.in_ok-part.ensures.size c.offset-offset.ensures
