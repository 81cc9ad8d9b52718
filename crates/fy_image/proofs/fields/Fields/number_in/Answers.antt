use Rattle.std.proofs.Common.{◌<◌, ◌⊎◌, inl, inr}
use Rattle.std.proofs.lemmas.Result.{err_from_is_err_and}
use Rattle.fy_image.specs.Refusals.{number_in}
use Rattle.fy_image.proofs.Judging.{number_good, number_bad, cut_judged}
use Rattle.fy_image.proofs.fields.Fields.number_in.Goals as goal

pub returns-in_err-n-clause-judged : goal.returns-in_err-n-clause-judged
returns-in_err-n-clause-judged c =
    let p = err_from_is_err_and c.from_residual.result c.from_residual.ensures.1 in
    rw (p.1, p.2) (cut_judged c.in_err-n.field-0.0 (number_in c.args.least c.args.most c.args.field) c.args.self.now c.in_err-n.ensures.cut.0 c.in_err-n.ensures.cut.1)

pub returns-then-n-least-clause-judged : goal.returns-then-n-least-clause-judged
returns-then-n-least-clause-judged c = λ fields.
    let out : (c.in_ok-n.n < c.args.least) ⊎ (c.args.most < c.in_ok-n.n) = elim c.then-n-least.either [ inl low ↦ inl low | inr high ↦ inr high.1 ] in
    rw c.in_ok-n.ensures.taken (number_bad c.args.least c.args.most c.args.field c.in_ok-n.n fields c.number.new.self c.in_ok-n.ensures.fits out)

pub returns-clause-judged : goal.returns-clause-judged
returns-clause-judged c = λ fields.
    rw c.in_ok-n.ensures.taken (number_good c.args.least c.args.most c.args.field c.in_ok-n.n fields c.number.new.self c.in_ok-n.ensures.fits c.if-n-least.false c.if-most-n.false)
