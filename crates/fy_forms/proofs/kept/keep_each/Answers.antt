use Rattle.std.proofs.Common.{sym, ap, ◌∙◌, subst}
use Rattle.std.proofs.lemmas.Result.{err_from_is_err_and}
use Rattle.fy_types.specs.Reading.{plain_path, plain_paths}
use Rattle.fy_types.specs.Limits.{IsTooLarge}
use Rattle.fy_forms.specs.Sized.{IsSized}
use Rattle.fy_types.specs.Keeping.{added, all_added}
use Rattle.fy_forms.proofs.KeepLemmas.{kept-more, large-kept}
use Rattle.fy_forms.proofs.kept.keep_each.Goals as goal

pub returns-in_err-form-clause-large : goal.returns-in_err-form-clause-large
returns-in_err-form-clause-large c =
    let p = err_from_is_err_and c.from_residual.result c.from_residual.ensures.1 in
    let more = kept-more (plain_paths c.args.kept.paths) c.as_slice-path-items.result.now c.loop-path.path-index c.path-item.result
    c.loop-path-test.true c.path-item.is in
    rw (p.1, p.2) (λ e. subst IsTooLarge (ap (all_added (plain_paths c.args.kept.paths)) (sym c.as_slice-path-items.ensures.reading))
    (large-kept (plain_paths c.args.kept.paths) c.as_slice-path-items.result.now _
    (subst IsTooLarge (ap (λ P. added P (plain_path c.path-item.result)) c.loop-path.invariant.paths ∙ more) (c.in_err-form.ensures.large e))))

pub loop-path-preserved : goal.loop-path-preserved
loop-path-preserved c =
    let more = kept-more (plain_paths c.args.kept.paths) c.as_slice-path-items.result.now c.loop-path.path-index c.path-item.result
    c.loop-path-test.true c.path-item.is in
    subst (λ P. IsSized c.in_ok-form.form P) (ap (λ P. added P (plain_path c.path-item.result)) c.loop-path.invariant.paths ∙ more)
    c.in_ok-form.ensures.ok
