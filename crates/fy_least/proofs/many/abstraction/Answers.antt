use Rattle.std.proofs.Common.{length, map, sym, ap, ◌∙◌, subst, arith, inl, inr}
use Rattle.std.proofs.lemmas.Result.{err_from_is_err_and}
use Rattle.fy_types.specs.Limits.{IsTooLarge}
use Rattle.fy_types.specs.Once.{once}
use Rattle.fy_types.specs.Reading.{plain_type, types_from}
use Rattle.fy_derive.specs.Reading.{derivations_from, plain_derivation}
use Rattle.fy_least.specs.Many.{AreOnce, IsAbstracted, blame_at_first, called_bodies, total_of}
use Rattle.fy_least.proofs.AnswerLemmas.{derived-same, made-same, refused-same}
use Rattle.fy_least.proofs.ErrorLemmas.{large-again}
use Rattle.fy_least.proofs.many.abstraction.Goals as goal

pub paths_of_calls-requires-clause-same : goal.paths_of_calls-requires-clause-same
paths_of_calls-requires-clause-same c = c.requires.same ∙ ap length (sym c.as_slice-list.ensures.value)

pub paths_of_calls-requires-clause-once : goal.paths_of_calls-requires-clause-once
paths_of_calls-requires-clause-once c = subst AreOnce (sym c.as_slice-list.ensures.value) c.requires.once

pub returns-in_err-total-clause-large : goal.returns-in_err-total-clause-large
returns-in_err-total-clause-large c =
    let p = err_from_is_err_and c.from_residual.result c.from_residual.ensures.1 in
    let same = ap total_of c.as_slice-list.ensures.value in
    rw (p.1, p.2) (λ e. let many = c.in_err-total.ensures.large (large-again _ e) in inr (omega (arith, many, same)))

pub returns-in_err-paths-clause-large : goal.returns-in_err-paths-clause-large
returns-in_err-paths-clause-large c =
    let p = err_from_is_err_and c.from_residual-in_err-paths.result c.from_residual-in_err-paths.ensures.1 in
    let As = types_from (map plain_type c.args.alternatives.now) in
    rw (p.1, p.2) (λ e. inl (subst (λ fs. IsTooLarge (once (called_bodies As fs))) c.as_slice-list.ensures.value
    (c.in_err-paths.ensures.large (large-again _ e))))

pub returns-clause-made : goal.returns-clause-made
returns-clause-made c =
    let As = types_from (map plain_type c.args.alternatives.now) in
    let fs = c.as_slice-list.ensures.value in
    made-same c.new.result (c.in_ok-paths.ensures.ok ∙ ap (λ xs. once (called_bodies As xs)) fs)
    (c.blame_at_head-blame.ensures ∙ ap (λ xs. blame_at_first xs c.args.at) fs)
    (omega (arith, c.in_ok-total.ensures.sum, ap total_of fs)) c.new.ensures.made

pub returns-clause-derived : goal.returns-clause-derived
returns-clause-derived c =
    derived-same c.new.result (IsAbstracted c.args.bodies.items) (plain_derivation c.in_ok-derivation.derivation)
    (derivations_from (map plain_derivation c.in_ok-members.members.items), c.in_ok-members.ensures, c.in_ok-derivation.ensures)
    c.new.ensures.derived

pub returns-clause-large : goal.returns-clause-large
returns-clause-large c =
    let As = types_from (map plain_type c.args.alternatives.now) in
    let fs = c.as_slice-list.ensures.value in
    λ e. refused-same (c.in_ok-paths.ensures.ok ∙ ap (λ xs. once (called_bodies As xs)) fs)
    (omega (arith, c.in_ok-total.ensures.sum, ap total_of fs)) (c.new.ensures.large e)
