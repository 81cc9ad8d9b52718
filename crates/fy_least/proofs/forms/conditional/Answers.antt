use Rattle.std.proofs.Common.{◌≡◌, true, sym, ◌∙◌, subst, inl, inr}
use Rattle.std.proofs.lemmas.Result.{err_from_is_err_and}
use Rattle.fy_types.specs.declared.types.Atom.TheVariants.{Bool as Truth}
use Rattle.fy_types.specs.Reading.{plain_paths}
use Rattle.fy_types.specs.Bounds.{join_of}
use Rattle.fy_types.specs.Limits.{IsTooLarge}
use Rattle.fy_derive.specs.Least.{if_passed}
use Rattle.fy_derive.specs.Reading.{plain_derivation}
use Rattle.fy_least.specs.Derived.{IsChoice}
use Rattle.fy_least.specs.Forms.{IsChosen}
use Rattle.fy_least.specs.Visited.{derivation_of, has_atom}
use Rattle.fy_least.proofs.AnswerLemmas.{derived-same, large-error}
use Rattle.fy_least.proofs.forms.conditional.Goals as goal

pub returns-then-not-has-clause-derived : goal.returns-then-not-has-clause-derived
returns-then-not-has-clause-derived c = inl (sym c.has.ensures ∙ c.if-not-has.true, c.none.ensures.derived)

pub returns-in_err-paths-clause-large : goal.returns-in_err-paths-clause-large
returns-in_err-paths-clause-large c =
    let p = err_from_is_err_and c.from_residual-in_err-paths.result c.from_residual-in_err-paths.ensures.1 in
    let there : has_atom c.args.test Truth ≡ true = sym c.has.ensures ∙ c.if-not-has.false in
    rw (p.1, p.2) (λ e. inl (subst (λ b. IsTooLarge (if_passed b (join_of (plain_paths c.args.first.paths) (plain_paths c.args.second.paths))))
    (sym there)
    (c.in_err-paths.ensures.large (large-error _ e))))

pub returns-clause-derived : goal.returns-clause-derived
returns-clause-derived c =
    let f = c.args.test in
    let g = c.args.first in
    let h = c.args.second in
    let made = plain_derivation c.in_ok-derivation.derivation in
    derived-same c.new.result (IsChosen f g h) made
    (inr (
      sym c.has.ensures ∙ c.if-not-has.false,
      subst (λ R. IsChoice R (derivation_of f) (derivation_of g) (derivation_of h) made) c.in_ok-paths.ensures.ok c.in_ok-derivation.ensures,
    ))
    c.new.ensures.derived
