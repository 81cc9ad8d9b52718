use Rattle.std.proofs.Common.{slice_get, sym, ap, ◌∙◌, subst}
use Rattle.fy_types.specs.Limits.{IsTooLarge}
use Rattle.fy_types.specs.Once.{once}
use Rattle.fy_types.specs.Reading.{plain_paths}
use Rattle.fy_least.specs.Scopes.{context_forms, scope_forms}
use Rattle.fy_least.proofs.ScopeLemmas.{forms-around, forms-under, next_place, paths-same}
use Rattle.fy_least.proofs.scope.form_at.Goals as goal

pub returns-in-Around-clause-large : goal.returns-in-Around-clause-large
returns-in-Around-clause-large c =
    let same = ap (λ G. slice_get G c.loop-rest.left) (sym (forms-around c.loop-rest.rest.now c.in-Around.context _ c.in-Around.is)) ∙ c.loop-rest.invariant in
    λ e. subst (λ P. IsTooLarge (once P))
    (paths-same (context_forms c.in-Around.context.now) (scope_forms c.args.scope.now) c.loop-rest.left c.args.variable same)
    (c.form_at.ensures.large e)

pub loop-rest-preserved : goal.loop-rest-preserved
loop-rest-preserved c =
    sym (next_place (plain_paths c.in-Under.bound.now.paths.now) (scope_forms c.in-Under.outer.now) c.loop-rest.left c.if-left-eq0.false)
    ∙ (ap (λ Ps. slice_get Ps c.loop-rest.left) (sym (forms-under _ _ _ c.in-Under.is)) ∙ c.loop-rest.invariant)
