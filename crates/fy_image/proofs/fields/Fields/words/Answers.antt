use Rattle.std.proofs.Common.{arith, refl, ◌*◌}
use Rattle.std.proofs.lemmas.Result.{err_from_is_err_and}
use Rattle.fy_image.specs.Form.{word}
use Rattle.fy_image.specs.Refusals.{any_bytes}
use Rattle.fy_image.proofs.Judging.{cut_judged, any_good}
use Rattle.fy_image.proofs.Lists.{fours_cut, words_long}
use Rattle.fy_image.proofs.fields.Fields.words.Goals as goal

pub returns-in_err-number-clause-judged : goal.returns-in_err-number-clause-judged
returns-in_err-number-clause-judged c =
    let p = err_from_is_err_and c.from_residual.result c.from_residual.ensures.1 in
    let cut = c.in_err-number.ensures.cut in
    let short = fours_cut word (λ x. refl) c.loop.words c.args.count c.args.self.now c.loop.self c.loop.invariant.taken (omega (arith, c.loop.invariant.count)) cut.1 in
    rw (p.1, p.2) (cut_judged c.in_err-number.field-0.0 (any_bytes (4 * c.args.count)) c.args.self.now cut.0 short)

pub returns-clause-judged : goal.returns-clause-judged
returns-clause-judged c = λ fields.
    let long = words_long c.loop.words c.args.count (omega (arith, c.loop.invariant.count)) in
    rw c.loop.invariant.taken (any_good (4 * c.args.count) fields _ c.loop.self long)
