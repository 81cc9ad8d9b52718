use Rattle.std.proofs.Common.{◌≡◌, Err, sym, ap, ◌∙◌, subst}
use Rattle.std.proofs.lemmas.Result.{err_from_is_err_and}
use Rattle.fy_types.specs.Paths.{PlainPaths}
use Rattle.fy_types.specs.Reading.{plain_paths}
use Rattle.fy_types.specs.Limits.{IsTooLarge, IsWithinLimits}
use Rattle.fy_types.specs.Bounds.{meet_of}
use Rattle.fy_types.specs.Keeping.{all_added}
use Rattle.fy_types.specs.Once.{once}
use Rattle.fy_forms.specs.declared.error.TypeError.TheVariants.{TypeTooLarge}
use Rattle.fy_forms.proofs.KeepLemmas.{all_added-once, large-all_added}
use Rattle.fy_forms.proofs.meet_forms.meet_with.Goals as goal

-- the paths of the second form after those of the first, of which each stands there once
met : (F P Q : PlainPaths) → F ≡ P → once P ≡ P → all_added F Q ≡ meet_of P Q
met F P Q is distinct = ap (λ X. all_added X Q) (is ∙ sym distinct) ∙ all_added-once P Q

pub returns-in_err-first-clause-large : goal.returns-in_err-first-clause-large
returns-in_err-first-clause-large c =
    let P = plain_paths c.args.a in
    let Q = plain_paths c.args.b.now in
    let p = err_from_is_err_and c.from_residual.result c.from_residual.ensures.1 in
    rw (p.1, p.2) (λ e. let is : c.in_err-first.field-0.0 ≡ TypeTooLarge = cc in
    subst IsTooLarge (ap (λ X. all_added X Q) (sym c.requires) ∙ all_added-once P Q) (large-all_added P Q (c.in_err-first.ensures.large (ap Err is))))

pub returns-in_err-paths-clause-large : goal.returns-in_err-paths-clause-large
returns-in_err-paths-clause-large c =
    let same = met _ (plain_paths c.args.a) (plain_paths c.args.b.now) c.in_ok-first.ensures.ok.paths c.requires in
    let p = err_from_is_err_and c.from_residual-in_err-paths.result c.from_residual-in_err-paths.ensures.1 in
    rw (p.1, p.2) (λ e. let is : c.in_err-paths.field-0.0 ≡ TypeTooLarge = cc in subst IsTooLarge same (c.in_err-paths.ensures.large (ap Err is)))

pub returns-clause-ok : goal.returns-clause-ok
returns-clause-ok c =
    c.in_ok-paths.ensures.ok.paths ∙ met _ (plain_paths c.args.a) (plain_paths c.args.b.now) c.in_ok-first.ensures.ok.paths c.requires

pub returns-clause-within : goal.returns-clause-within
returns-clause-within c =
    subst IsWithinLimits (met _ (plain_paths c.args.a) (plain_paths c.args.b.now) c.in_ok-first.ensures.ok.paths c.requires) c.in_ok-paths.ensures.ok.within
