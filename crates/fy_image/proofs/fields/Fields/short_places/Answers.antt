use Rattle.std.proofs.Common.{◌++◌, ◌∙◌, ap, arith}
use Rattle.std.proofs.lemmas.Result.{err_from_is_err_and}
use Rattle.fy_image.specs.declared.version.Version.TheVariants.{Two}
use Rattle.fy_image.specs.Refusals.{first_refusal, place_fields}
use Rattle.fy_image.proofs.Placing.{placed_good, line_bad, col_bad}
use Rattle.fy_image.proofs.fields.Fields.short_places.Goals as goal

pub returns-in_err-line-clause-judged : goal.returns-in_err-line-clause-judged
returns-in_err-line-clause-judged c =
    let p = err_from_is_err_and c.from_residual.result c.from_residual.ensures.1 in
    rw (p.1, p.2)
    (λ fields. line_bad c.args.count c.args.field c.loop.places c.in_err-line.field-0.0 fields c.args.self.now c.loop.self c.loop.invariant.fit (omega (arith, c.loop.invariant.count)) c.loop.invariant.taken c.in_err-line.ensures.judged)

pub returns-in_err-col-clause-judged : goal.returns-in_err-col-clause-judged
returns-in_err-col-clause-judged c =
    let p = err_from_is_err_and c.from_residual-in_err-col.result c.from_residual-in_err-col.ensures.1 in
    let line = c.in_ok-line.ensures in
    rw (p.1, p.2)
    (λ fields. col_bad c.args.count c.args.field c.loop.places c.in_ok-line.line c.in_err-col.field-0.0 fields c.args.self.now c.loop.self _ c.loop.invariant.fit (omega (arith, c.loop.invariant.count)) c.loop.invariant.taken line.taken line.some line.fits c.in_err-col.ensures.judged)

pub returns-clause-judged : goal.returns-clause-judged
returns-clause-judged c = λ fields.
    ap (λ b. first_refusal (place_fields Two c.args.count c.args.field ++ fields) b) c.loop.invariant.taken
    ∙ placed_good Two c.args.count c.args.field c.loop.places fields c.loop.self c.loop.invariant.fit (omega (arith, c.loop.invariant.count))
