use Rattle.std.proofs.Common.{◌≡◌, ap, ◌∙◌, subst}
use Rattle.std.proofs.lemmas.Result.{err_from_is_err_and, IfOk-weaker}
use Rattle.fy_types.specs.Paths.{PlainPaths, no_paths}
use Rattle.fy_types.specs.Reading.{plain_paths}
use Rattle.fy_types.specs.Limits.{IsTooLarge}
use Rattle.fy_forms.specs.Sized.{IsSized}
use Rattle.fy_types.specs.Bounds.{meet_of}
use Rattle.fy_types.specs.Keeping.{all_added}
use Rattle.fy_forms.proofs.KeepLemmas.{all_added-meet, large-all_added}
use Rattle.fy_forms.proofs.meet_forms.meet_form.Goals as goal

-- the paths of the second form after those of the first
both-met : (N F P Q : PlainPaths) → N ≡ no_paths → F ≡ all_added N P → all_added F Q ≡ meet_of P Q
both-met N F P Q none first = ap (λ X. all_added X Q) (first ∙ ap (λ X. all_added X P) none) ∙ all_added-meet P Q

large-first : (N P Q : PlainPaths) → N ≡ no_paths → IsTooLarge (all_added N P) → IsTooLarge (meet_of P Q)
large-first N P Q none large =
    subst IsTooLarge (all_added-meet P Q) (large-all_added (all_added no_paths P) Q (subst IsTooLarge (ap (λ X. all_added X P) none) large))

pub returns-in_err-few-clause-large : goal.returns-in_err-few-clause-large
returns-in_err-few-clause-large c =
    let p = err_from_is_err_and c.from_residual.result c.from_residual.ensures.1 in
    rw (p.1, p.2) (λ e. large-first _ (plain_paths c.args.a.now) (plain_paths c.args.b.now) c.none.ensures.paths (c.in_err-few.ensures.large e))

pub returns-in_err-first-clause-large : goal.returns-in_err-first-clause-large
returns-in_err-first-clause-large c =
    let p = err_from_is_err_and c.from_residual-in_err-first.result c.from_residual-in_err-first.ensures.1 in
    rw (p.1, p.2) (λ e. large-first _ (plain_paths c.args.a.now) (plain_paths c.args.b.now) c.none-2.ensures.paths (c.in_err-first.ensures.large e))

pub returns-then-count-le-FEW-clause-ok : goal.returns-then-count-le-FEW-clause-ok
returns-then-count-le-FEW-clause-ok c =
    let same = both-met _ _ (plain_paths c.args.a.now) (plain_paths c.args.b.now) c.none.ensures.paths c.in_ok-few.ensures.ok.paths in
    IfOk-weaker c.keep_each-then-count-le-FEW.result _ _ (λ s made. subst (λ P. IsSized s P) same made) c.keep_each-then-count-le-FEW.ensures.ok

pub returns-then-count-le-FEW-clause-large : goal.returns-then-count-le-FEW-clause-large
returns-then-count-le-FEW-clause-large c =
    let same = both-met _ _ (plain_paths c.args.a.now) (plain_paths c.args.b.now) c.none.ensures.paths c.in_ok-few.ensures.ok.paths in
    λ e. subst IsTooLarge same (c.keep_each-then-count-le-FEW.ensures.large e)

pub returns-clause-ok : goal.returns-clause-ok
returns-clause-ok c =
    let same = both-met _ _ (plain_paths c.args.a.now) (plain_paths c.args.b.now) c.none-2.ensures.paths c.in_ok-first.ensures.ok.paths in
    IfOk-weaker c.keep_all-2.result _ _ (λ s made. subst (λ P. IsSized s P) same made) c.keep_all-2.ensures.ok

pub returns-clause-large : goal.returns-clause-large
returns-clause-large c =
    let same = both-met _ _ (plain_paths c.args.a.now) (plain_paths c.args.b.now) c.none-2.ensures.paths c.in_ok-first.ensures.ok.paths in
    λ e. subst IsTooLarge same (c.keep_all-2.ensures.large e)
