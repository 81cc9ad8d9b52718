use Rattle.std.proofs.Common.{List, arith, ◌≡◌, ◌+◌, ◌<◌, ◌∙◌, sym, ap, subst, map}
use Rattle.std.proofs.lemmas.Result.{err_from_is_err_and}
use Rattle.fy_types.specs.declared.types.Ty.{Ty}
use Rattle.fy_types.specs.declared.types.TyList.{TyList}
use Rattle.fy_types.specs.Paths.{paths, all_paths, called}
use Rattle.fy_types.specs.Reading.{plain_paths, plain_type, plain_types, types_from}
use Rattle.fy_types.specs.Limits.{all_nodes, IsTooLarge}
use Rattle.fy_forms.specs.Sized.{IsSized}
use Rattle.fy_types.proofs.Sizes.{no_nodes, large-domain, large-rest, large-part}
use Rattle.fy_types.proofs.TypeForms.{reads_arrow, reads_field}
use Rattle.fy_types.proofs.Making.{first_paths-more, large-first, large-item}
use Rattle.fy_forms.proofs.form.+form.Goals as goal

pub form_of-returns-in_err-after-in-Arrow-clause-large : goal.form_of-returns-in_err-after-in-Arrow-clause-large
form_of-returns-in_err-after-in-Arrow-clause-large t c =
    let p = err_from_is_err_and c.from_residual-in_err-after-in-Arrow.result c.from_residual-in_err-after-in-Arrow.ensures.1 in
    let form = ap paths (reads_arrow c.args.ty.now c.in-Arrow.domain c.in-Arrow.rest c.in-Arrow.is) in
    rw (p.1, p.2) (λ e. subst IsTooLarge (sym form)
    (large-rest (paths (plain_type c.in-Arrow.domain.value)) (paths (plain_type c.in-Arrow.rest.value))
    (rw c.deref.ensures at (c.in_err-after-in-Arrow.ensures.large e))))

pub form_of-returns-then-after-eq0-clause-ok : goal.form_of-returns-then-after-eq0-clause-ok
form_of-returns-then-after-eq0-clause-ok t c =
    let form = ap paths (reads_arrow c.args.ty.now c.in-Arrow.domain c.in-Arrow.rest c.in-Arrow.is) in
    let made = c.in_ok-after-in-Arrow.ensures.ok in
    let none = no_nodes (paths (plain_type c.deref.result.now)) (sym made.nodes ∙ c.if-after-eq0.true) in
    let same = ap (λ x. paths (plain_type x)) c.deref.ensures in
    subst (λ P. IsSized c.in_ok-after-in-Arrow.after P)
    (none ∙ (ap (called (paths (plain_type c.in-Arrow.domain.value))) (sym none ∙ same) ∙ sym form)) made

pub form_of-returns-in_err-call-in-Arrow-clause-large : goal.form_of-returns-in_err-call-in-Arrow-clause-large
form_of-returns-in_err-call-in-Arrow-clause-large t c =
    let p = err_from_is_err_and c.from_residual-in_err-call-in-Arrow.result c.from_residual-in_err-call-in-Arrow.ensures.1 in
    let form = ap paths (reads_arrow c.args.ty.now c.in-Arrow.domain c.in-Arrow.rest c.in-Arrow.is) in
    let after = c.in_ok-after-in-Arrow.ensures.ok in
    let same = ap (λ x. paths (plain_type x)) c.deref.ensures in
    let some : 0 < all_nodes (paths (plain_type c.in-Arrow.rest.value)) =
    omega (arith, after.nodes, ap all_nodes same, c.if-after-eq0.false) in
    rw (p.1, p.2) (λ e. subst IsTooLarge (sym form)
    (large-domain (paths (plain_type c.in-Arrow.domain.value)) (paths (plain_type c.in-Arrow.rest.value)) some
    (rw c.deref-in-Arrow.ensures at (c.in_err-call-in-Arrow.ensures.large e))))

pub form_of-returns-in_err-after-in-Field-clause-large : goal.form_of-returns-in_err-after-in-Field-clause-large
form_of-returns-in_err-after-in-Field-clause-large t c =
    let p = err_from_is_err_and c.from_residual-in_err-after-in-Field.result c.from_residual-in_err-after-in-Field.ensures.1 in
    let form = ap paths (reads_field c.args.ty.now c.in-Field.name c.in-Field.part c.in-Field.is) in
    rw (p.1, p.2) (λ e. subst IsTooLarge (sym form)
    (large-part c.in-Field.name (paths (plain_type c.in-Field.part.value))
    (rw c.deref-in-Field.ensures at (c.in_err-after-in-Field.ensures.large e))))

pub form_of-returns-in_ok-call-in-Arrow-clause-large : goal.form_of-returns-in_ok-call-in-Arrow-clause-large
form_of-returns-in_ok-call-in-Arrow-clause-large t c =
    let form = ap paths (reads_arrow c.args.ty.now c.in-Arrow.domain c.in-Arrow.rest c.in-Arrow.is) in
    let after = c.in_ok-after-in-Arrow.ensures.ok.paths in
    let domain = c.in_ok-call-in-Arrow.ensures.ok.paths in
    let d = ap (λ x. paths (plain_type x)) c.deref.ensures in
    let e = ap (λ x. paths (plain_type x)) c.deref-in-Arrow.ensures in
    λ err. subst IsTooLarge
    (ap (λ D. called D (plain_paths c.in_ok-after-in-Arrow.after.paths)) (domain ∙ e)
    ∙ (ap (called (paths (plain_type c.in-Arrow.domain.value))) (after ∙ d) ∙ sym form)) (c.after_call.ensures.large err)

pub form_of-returns-in_ok-after-in-Field-clause-large : goal.form_of-returns-in_ok-after-in-Field-clause-large
form_of-returns-in_ok-after-in-Field-clause-large t c =
    let form = ap paths (reads_field c.args.ty.now c.in-Field.name c.in-Field.part c.in-Field.is) in
    let after = c.in_ok-after-in-Field.ensures.ok.paths in
    let d = c.deref-in-Field.ensures in
    λ err. subst IsTooLarge (cc (form, after, d)) (c.after_field.ensures.large err)

whole : (l : TyList) (xs : List Ty) → plain_types l ≡ types_from (map plain_type xs) →
    all_paths (types_from (map plain_type xs)) ≡ all_paths (plain_types l)
whole l xs e = ap all_paths (sym e)

pub form_of_all-returns-in_err-next-clause-large : goal.form_of_all-returns-in_err-next-clause-large
form_of_all-returns-in_err-next-clause-large t c =
    let p = err_from_is_err_and c.from_residual.result c.from_residual.ensures.1 in
    rw (p.1, p.2) (λ e. subst IsTooLarge (whole c.args.all.now c.as_slice-ty-items.result.now c.as_slice-ty-items.ensures.reading)
    (large-item c.as_slice-ty-items.result.now c.loop-ty.ty-index c.ty-item.result c.loop-ty-test.true c.ty-item.is
    (c.in_err-next.ensures.large e)))

pub form_of_all-returns-in_err-form-clause-large : goal.form_of_all-returns-in_err-form-clause-large
form_of_all-returns-in_err-form-clause-large t c =
    let p = err_from_is_err_and c.from_residual-in_err-form.result c.from_residual-in_err-form.ensures.1 in
    let more = first_paths-more c.as_slice-ty-items.result.now c.loop-ty.ty-index c.ty-item.result c.loop-ty-test.true c.ty-item.is in
    rw (p.1, p.2) (λ e. subst IsTooLarge (whole c.args.all.now c.as_slice-ty-items.result.now c.as_slice-ty-items.ensures.reading)
    (large-first c.as_slice-ty-items.result.now (c.loop-ty.ty-index + 1)
    (subst IsTooLarge (cc (more, c.loop-ty.invariant.paths, c.in_ok-next.ensures.ok.paths)) (c.in_err-form.ensures.large e))))

pub form_of_all-loop-ty-preserved : goal.form_of_all-loop-ty-preserved
form_of_all-loop-ty-preserved t c =
    let more = first_paths-more c.as_slice-ty-items.result.now c.loop-ty.ty-index c.ty-item.result c.loop-ty-test.true c.ty-item.is in
    subst (λ P. IsSized c.in_ok-form.form P) (cc (more, c.loop-ty.invariant.paths, c.in_ok-next.ensures.ok.paths)) c.in_ok-form.ensures.ok
