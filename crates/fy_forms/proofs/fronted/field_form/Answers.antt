use Rattle.std.proofs.Common.{◌≡◌, Err, ap, subst}
use Rattle.std.proofs.lemmas.Result.{err_from_is_err_and}
use Rattle.fy_types.specs.Paths.{picked}
use Rattle.fy_types.specs.Reading.{plain_paths}
use Rattle.fy_types.specs.Limits.{IsTooLarge}
use Rattle.fy_forms.specs.declared.error.TypeError.TheVariants.{TypeTooLarge}
use Rattle.fy_types.proofs.Sizes.{large-part}
use Rattle.fy_forms.proofs.fronted.field_form.Goals as goal

pub returns-in_err-after-clause-large : goal.returns-in_err-after-clause-large
returns-in_err-after-clause-large c =
    let p = err_from_is_err_and c.from_residual-in_err-after.result c.from_residual-in_err-after.ensures.1 in
    rw (p.1, p.2) (λ e. let is : c.in_err-after.field-0.0 ≡ TypeTooLarge = cc in
    subst (λ P. IsTooLarge (picked c.args.name P)) c.in_ok-copy.ensures
    (large-part c.args.name (plain_paths c.in_ok-copy.copy) (c.in_err-after.ensures.large (ap Err is))))
