use Rattle.std.proofs.Common.{inl, subst}
use Rattle.std.proofs.lemmas.Result.{err_from_is_err_and}
use Rattle.fy_types.specs.Reading.{plain_paths}
use Rattle.fy_derive.specs.Reading.{plain_derivation}
use Rattle.fy_least.specs.Derived.{IsCall}
use Rattle.fy_least.specs.Forms.{IsApplied}
use Rattle.fy_least.specs.Visited.{derivation_of}
use Rattle.fy_least.proofs.AnswerLemmas.{derived-same, large-error}
use Rattle.fy_least.proofs.forms.application.Goals as goal

pub returns-in_err-paths-clause-large : goal.returns-in_err-paths-clause-large
returns-in_err-paths-clause-large c =
    let p = err_from_is_err_and c.from_residual-in_err-paths.result c.from_residual-in_err-paths.ensures.1 in
    rw (p.1, p.2) (λ e. inl (c.in_err-paths.ensures.large (large-error _ e)))

pub returns-clause-derived : goal.returns-clause-derived
returns-clause-derived c =
    let f = c.args.procedure in
    let g = c.args.argument in
    let made = plain_derivation c.in_ok-derivation.derivation in
    derived-same c.new.result (IsApplied f g) made
    (subst (λ R. IsCall (plain_paths g.paths) R (derivation_of f) (derivation_of g) made)
    c.in_ok-paths.ensures.ok c.in_ok-derivation.ensures)
    c.new.ensures.derived
