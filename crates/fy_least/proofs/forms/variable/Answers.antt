use Rattle.std.proofs.Common.{option_map, refl, sym, ap, ◌∙◌, subst, inl}
use Rattle.std.proofs.lemmas.Result.{err_from_is_err_and}
use Rattle.fy_types.specs.Reading.{plain_paths}
use Rattle.fy_types.specs.Once.{once}
use Rattle.fy_least.specs.Scopes.{scope_forms}
use Rattle.fy_least.specs.Visited.{IsMade}
use Rattle.fy_least.proofs.AnswerLemmas.{made-same, refused-same}
use Rattle.fy_least.proofs.ErrorLemmas.{large-again}
use Rattle.fy_least.proofs.ScopeLemmas.{paths-out, paths-in, rule-out}
use Rattle.fy_least.proofs.forms.variable.Goals as goal

pub returns-in_default-clause-made : goal.returns-in_default-clause-made
returns-in_default-clause-made c =
    subst (λ P. IsMade (once P) c.args.at 0 c.none.result)
    (sym (paths-out (scope_forms c.args.scope.now) c.args.number (ap (option_map plain_paths) (sym c.in_default.is) ∙ c.in_ok-paths.ensures.ok))) c.none.ensures.made

pub returns-in_default-clause-derived : goal.returns-in_default-clause-derived
returns-in_default-clause-derived c =
    c.none.ensures.derived ∙ sym (rule-out (scope_forms c.args.scope.now) c.args.number (ap (option_map plain_paths) (sym c.in_default.is) ∙ c.in_ok-paths.ensures.ok))

pub returns-in_err-paths-clause-large : goal.returns-in_err-paths-clause-large
returns-in_err-paths-clause-large c =
    let p = err_from_is_err_and c.from_residual.result c.from_residual.ensures.1 in
    rw (p.1, p.2) (λ e. inl (c.in_err-paths.ensures.large (large-again _ e)))

pub returns-clause-made : goal.returns-clause-made
returns-clause-made c =
    made-same c.new-2.result (paths-in (scope_forms c.args.scope.now) c.args.number (plain_paths c.in-Some.paths)
    (ap (option_map plain_paths) (sym c.in-Some.is) ∙ c.in_ok-paths.ensures.ok))
    refl refl c.new-2.ensures.made

pub returns-clause-large : goal.returns-clause-large
returns-clause-large c =
    λ e. refused-same (paths-in (scope_forms c.args.scope.now) c.args.number (plain_paths c.in-Some.paths)
    (ap (option_map plain_paths) (sym c.in-Some.is) ∙ c.in_ok-paths.ensures.ok))
    refl (c.new-2.ensures.large e)
