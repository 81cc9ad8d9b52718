use Rattle.std.proofs.Common.{ap, refl, sym, ◌∙◌, subst}
use Rattle.std.proofs.lemmas.Result.{err_from_is_err_and}
use Rattle.fy_types.specs.Paths.{no_paths}
use Rattle.fy_types.specs.Reading.{plain_path, plain_paths}
use Rattle.fy_types.specs.Limits.{IsTooLarge}
use Rattle.fy_forms.specs.Sized.{IsSized}
use Rattle.fy_types.specs.Bounds.{commons_with, commons, join_of}
use Rattle.fy_types.specs.Keeping.{all_added}
use Rattle.fy_forms.proofs.KeepLemmas.{commons-more, large-commons, firsts-all, all_added-join}
use Rattle.fy_forms.specs.Keys.{group_at}
use Rattle.fy_forms.specs.Numbers.{key_of}
use Rattle.fy_forms.proofs.JoinLemmas.{commons-by_index}
use Rattle.fy_forms.proofs.join_forms.join_form.Goals as goal

pub returns-in_err-form-clause-large : goal.returns-in_err-form-clause-large
returns-in_err-form-clause-large c =
    let p = err_from_is_err_and c.from_residual-in_err-form.result c.from_residual-in_err-form.ensures.1 in
    let more = commons-more (plain_paths c.args.b.now) c.as_slice-path-items.result.now c.loop-path.path-index c.path-item.result
    c.loop-path-test.true c.path-item.is in
    let same = commons-by_index c.in_ok-groups.groups c.args.b.now (plain_path c.path-item.result) c.as_slice.result.now
    (group_at c.in_ok-groups.groups (key_of (plain_path c.path-item.result))) c.in_ok-groups.ensures refl c.as_slice.ensures.reading in
    rw (p.1, p.2) (λ e. subst IsTooLarge (ap (λ P. join_of P (plain_paths c.args.b.now)) (sym c.as_slice-path-items.ensures.reading))
    (large-commons (plain_paths c.args.b.now) c.as_slice-path-items.result.now _
    (subst IsTooLarge
    (ap (all_added (plain_paths c.loop-path.form.paths)) same
    ∙ (ap (λ P. all_added P (commons_with (plain_path c.path-item.result) (plain_paths c.args.b.now))) c.loop-path.invariant.sized.paths ∙ more))
    (c.in_err-form.ensures.large e))))

pub loop-path-preserved : goal.loop-path-preserved
loop-path-preserved c =
    let more = commons-more (plain_paths c.args.b.now) c.as_slice-path-items.result.now c.loop-path.path-index c.path-item.result
    c.loop-path-test.true c.path-item.is in
    let same = commons-by_index c.in_ok-groups.groups c.args.b.now (plain_path c.path-item.result) c.as_slice.result.now
    (group_at c.in_ok-groups.groups (key_of (plain_path c.path-item.result))) c.in_ok-groups.ensures refl c.as_slice.ensures.reading in
    record {
      sized = subst (λ P. IsSized c.in_ok-form.form P)
          (ap (all_added (plain_paths c.loop-path.form.paths)) same
          ∙ (ap (λ P. all_added P (commons_with (plain_path c.path-item.result) (plain_paths c.args.b.now))) c.loop-path.invariant.sized.paths ∙ more))
          c.in_ok-form.ensures.ok;
      seen = c.in_ok-form.ensures.seen;
      known = c.in_ok-form.ensures.known;
    }

pub returns-clause-ok : goal.returns-clause-ok
returns-clause-ok c =
    let all = firsts-all c.as_slice-path-items.result.now c.loop-path.path-index c.loop-path-test.false ∙ sym c.as_slice-path-items.ensures.reading in
    subst (λ P. IsSized c.loop-path.form P)
    (ap (λ P. all_added no_paths (commons P (plain_paths c.args.b.now))) all
    ∙ all_added-join (plain_paths c.args.a.now) (plain_paths c.args.b.now)) c.loop-path.invariant.sized
