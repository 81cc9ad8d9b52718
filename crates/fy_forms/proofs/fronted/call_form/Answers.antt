use Rattle.std.proofs.Common.{◌≡◌, ◌<◌, Err, arith, sym, ap, ◌∙◌, map, subst}
use Rattle.std.proofs.lemmas.Result.{err_from_is_err_and}
use Rattle.fy_types.specs.Paths.{called}
use Rattle.fy_types.specs.Reading.{plain_path, plain_paths, paths_from}
use Rattle.fy_types.specs.Limits.{all_nodes, IsTooLarge, IsWithinLimits}
use Rattle.fy_forms.specs.declared.error.TypeError.TheVariants.{TypeTooLarge}
use Rattle.fy_types.proofs.ReadLemmas.{plain_paths-at}
use Rattle.fy_types.proofs.Sizes.{no_nodes, large-domain, large-rest}
use Rattle.fy_forms.proofs.fronted.call_form.Goals as goal

pub returns-in_err-after-clause-large : goal.returns-in_err-after-clause-large
returns-in_err-after-clause-large c =
    let p = err_from_is_err_and c.from_residual-in_err-after.result c.from_residual-in_err-after.ensures.1 in
    rw (p.1, p.2) (λ e. let is : c.in_err-after.field-0.0 ≡ TypeTooLarge = cc in
    subst (λ P. IsTooLarge (called (plain_paths c.args.domain.now) P)) c.in_ok-copy.ensures
    (large-rest (plain_paths c.args.domain.now) (plain_paths c.in_ok-copy.copy) (c.in_err-after.ensures.large (ap Err is))))

pub returns-then-after-eq0-clause-ok : goal.returns-then-after-eq0-clause-ok
returns-then-after-eq0-clause-ok c =
    let none = no_nodes (plain_paths c.in_ok-copy.copy) (sym c.in_ok-after.ensures.ok.nodes ∙ c.if-after-eq0.true) in
    plain_paths-at c.new.result ∙ ap (λ xs. paths_from (map plain_path xs)) c.new.ensures
    ∙ ap (called (plain_paths c.args.domain.now)) (sym none ∙ c.in_ok-copy.ensures)

pub returns-in_err-call-clause-large : goal.returns-in_err-call-clause-large
returns-in_err-call-clause-large c =
    let p = err_from_is_err_and c.from_residual-in_err-call.result c.from_residual-in_err-call.ensures.1 in
    let some : 0 < all_nodes (plain_paths c.args.paths.now) =
    omega (arith, c.in_ok-after.ensures.ok.nodes, ap all_nodes c.in_ok-copy.ensures, c.if-after-eq0.false) in
    rw (p.1, p.2) (λ e. let is : c.in_err-call.field-0.0 ≡ TypeTooLarge = cc in
    large-domain (plain_paths c.args.domain.now) (plain_paths c.args.paths.now) some
    (subst IsTooLarge c.in_ok-argument.ensures (c.in_err-call.ensures.large (ap Err is))))

pub returns-then-after-eq0-clause-within : goal.returns-then-after-eq0-clause-within
returns-then-after-eq0-clause-within c =
    let none = no_nodes (plain_paths c.in_ok-copy.copy) (sym c.in_ok-after.ensures.ok.nodes ∙ c.if-after-eq0.true) in
    subst (λ P. IsWithinLimits (called (plain_paths c.args.domain.now) P)) (sym (sym c.in_ok-copy.ensures ∙ none)) (record { few = omega arith; shallow = omega arith })
