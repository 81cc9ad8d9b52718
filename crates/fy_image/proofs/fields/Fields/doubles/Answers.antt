use Rattle.std.proofs.Common.{arith, refl, ◌*◌}
use Rattle.std.proofs.lemmas.Result.{err_from_is_err_and}
use Rattle.fy_image.specs.Form.{double}
use Rattle.fy_image.specs.Refusals.{any_bytes}
use Rattle.fy_image.proofs.Judging.{cut_judged, any_good}
use Rattle.fy_image.proofs.Lists.{eights_cut, doubles_long}
use Rattle.fy_image.proofs.fields.Fields.doubles.Goals as goal

pub returns-in_err-double-clause-judged : goal.returns-in_err-double-clause-judged
returns-in_err-double-clause-judged c =
    let p = err_from_is_err_and c.from_residual.result c.from_residual.ensures.1 in
    let cut = c.in_err-double.ensures.cut in
    let short = eights_cut double (λ x. refl) c.loop.doubles c.args.count c.args.self.now c.loop.self c.loop.invariant.taken (omega (arith, c.loop.invariant.count)) cut.1 in
    rw (p.1, p.2) (cut_judged c.in_err-double.field-0.0 (any_bytes (8 * c.args.count)) c.args.self.now cut.0 short)

pub returns-clause-judged : goal.returns-clause-judged
returns-clause-judged c = λ fields.
    let long = doubles_long c.loop.doubles c.args.count (omega (arith, c.loop.invariant.count)) in
    rw c.loop.invariant.taken (any_good (8 * c.args.count) fields _ c.loop.self long)
