use Rattle.std.proofs.Common.{refl, inl}
use Rattle.std.proofs.lemmas.Result.{err_from_is_err_and}
use Rattle.fy_least.proofs.AnswerLemmas.{large-error, made-same, refused-same}
use Rattle.fy_least.proofs.forms.field.Goals as goal

pub returns-in_err-paths-clause-large : goal.returns-in_err-paths-clause-large
returns-in_err-paths-clause-large c =
    let p = err_from_is_err_and c.from_residual.result c.from_residual.ensures.1 in
    rw (p.1, p.2) (λ e. inl (c.in_err-paths.ensures.large (large-error _ e)))

pub returns-clause-made : goal.returns-clause-made
returns-clause-made c = made-same c.new.result c.in_ok-paths.ensures.ok c.blame_or-blame.ensures refl c.new.ensures.made

pub returns-clause-large : goal.returns-clause-large
returns-clause-large c = λ e. refused-same c.in_ok-paths.ensures.ok refl (c.new.ensures.large e)
