use Rattle.std.proofs.Common.{ap, ◌∙◌, subst}
use Rattle.std.proofs.lemmas.Result.{err_from_is_err_and}
use Rattle.fy_types.specs.Reading.{plain_path, plain_paths}
use Rattle.fy_types.specs.Limits.{IsTooLarge}
use Rattle.fy_forms.specs.Sized.{IsSized}
use Rattle.fy_types.specs.Bounds.{common}
use Rattle.fy_types.specs.Keeping.{all_added}
use Rattle.fy_forms.proofs.JoinLemmas.{commons_lent-more, large-commons_lent}
use Rattle.fy_forms.proofs.join_forms.keep_commons.Goals as goal

pub returns-in_err-form-clause-large : goal.returns-in_err-form-clause-large
returns-in_err-form-clause-large c =
    let p = err_from_is_err_and c.from_residual.result c.from_residual.ensures.1 in
    let more = commons_lent-more (plain_paths c.args.kept.paths) (plain_path c.args.path.now) c.args.list.now
    c.loop-other.other-index c.other-item.result c.loop-other-test.true c.other-item.is in
    rw (p.1, p.2) (λ e. large-commons_lent (plain_paths c.args.kept.paths) (plain_path c.args.path.now) c.args.list.now _
    (subst IsTooLarge
    (ap (λ P. all_added P (common (plain_path c.args.path.now) (plain_path c.other-item.result.now))) c.loop-other.invariant.sized.paths ∙ more)
    (c.in_err-form.ensures.large e)))

pub loop-other-preserved : goal.loop-other-preserved
loop-other-preserved c =
    let more = commons_lent-more (plain_paths c.args.kept.paths) (plain_path c.args.path.now) c.args.list.now
    c.loop-other.other-index c.other-item.result c.loop-other-test.true c.other-item.is in
    record {
      sized = subst (λ P. IsSized c.in_ok-form.form P)
          (ap (λ P. all_added P (common (plain_path c.args.path.now) (plain_path c.other-item.result.now))) c.loop-other.invariant.sized.paths ∙ more)
          c.in_ok-form.ensures.ok;
      seen = c.in_ok-form.ensures.seen;
    }
