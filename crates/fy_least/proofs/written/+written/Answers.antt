use Rattle.std.proofs.Common.{◌+◌, ◌≡◌, ap, sym, ◌∙◌, subst}
use Rattle.std.proofs.lemmas.Result.{err_from_is_err_and}
use Rattle.fy_types.specs.Limits.{IsTooLarge}
use Rattle.fy_types.specs.Once.{once}
use Rattle.fy_types.specs.Paths.{paths, all_paths}
use Rattle.fy_types.specs.Reading.{plain_paths}
use Rattle.fy_types.proofs.Making.{first_paths, first_paths-all}
use Rattle.fy_types.proofs.TypeForms.{reads_ns, reads_atom}
use Rattle.fy_memo.proofs.EachLemmas.{empty-paths}
use Rattle.fy_least.proofs.DistinctLemmas.{distinct-once, once-distinct}
use Rattle.fy_least.proofs.AnswerLemmas.{large-error}
use Rattle.fy_least.proofs.ErrorLemmas.{large-again}
use Rattle.fy_least.proofs.WrittenLemmas.{arrow-once, arrow-large, field-once, field-large, members-next, large-member, large-members}
use Rattle.fy_least.proofs.written.+written.Goals as goal

pub once_in-returns-in-Ns-clause-ok : goal.once_in-returns-in-Ns-clause-ok
once_in-returns-in-Ns-clause-ok t c =
    empty-paths c.new.result c.new.ensures ∙ ap (λ A. once (paths A)) (sym (reads_ns c.args.ty.now c.in-Ns.is))

pub once_in-returns-in_ok-made-in-Atom-clause-ok : goal.once_in-returns-in_ok-made-in-Atom-clause-ok
once_in-returns-in_ok-made-in-Atom-clause-ok t c =
    c.in_ok-made-in-Atom.ensures ∙ ap (λ A. once (paths A)) (sym (reads_atom c.args.ty.now c.in-Atom.end c.in-Atom.is))

pub once_in-returns-in_err-rests-in-Arrow-clause-large : goal.once_in-returns-in_err-rests-in-Arrow-clause-large
once_in-returns-in_err-rests-in-Arrow-clause-large t c =
    let p = err_from_is_err_and c.from_residual-in_err-rests-in-Arrow.result c.from_residual-in_err-rests-in-Arrow.ensures.1 in
    rw (p.1, p.2) (λ e. arrow-large c.args.ty.now c.in-Arrow.domain c.in-Arrow.rest c.deref.result.now c.in-Arrow.is c.deref.ensures
    (c.in_err-rests-in-Arrow.ensures.large (large-again _ e)))

pub once_in-returns-in_err-made-in-Arrow-clause-large : goal.once_in-returns-in_err-made-in-Arrow-clause-large
once_in-returns-in_err-made-in-Arrow-clause-large t c =
    let p = err_from_is_err_and c.from_residual-in_err-made-in-Arrow.result c.from_residual-in_err-made-in-Arrow.ensures.1 in
    rw (p.1, p.2) (λ e. subst IsTooLarge
    (arrow-once c.args.ty.now c.in-Arrow.domain c.in-Arrow.rest c.deref-in-Arrow.result.now c.deref.result.now _ c.in-Arrow.is
    c.deref-in-Arrow.ensures c.deref.ensures c.in_ok-rests-in-Arrow.ensures.ok)
    (c.in_err-made-in-Arrow.ensures.large (large-error _ e)))

pub once_in-returns-in_ok-made-in-Arrow-clause-ok : goal.once_in-returns-in_ok-made-in-Arrow-clause-ok
once_in-returns-in_ok-made-in-Arrow-clause-ok t c =
    c.in_ok-made-in-Arrow.ensures.ok
    ∙ arrow-once c.args.ty.now c.in-Arrow.domain c.in-Arrow.rest c.deref-in-Arrow.result.now c.deref.result.now _ c.in-Arrow.is
    c.deref-in-Arrow.ensures c.deref.ensures c.in_ok-rests-in-Arrow.ensures.ok

pub once_in-returns-in_err-rests-in-Field-clause-large : goal.once_in-returns-in_err-rests-in-Field-clause-large
once_in-returns-in_err-rests-in-Field-clause-large t c =
    let p = err_from_is_err_and c.from_residual-in_err-rests-in-Field.result c.from_residual-in_err-rests-in-Field.ensures.1 in
    rw (p.1, p.2) (λ e. field-large c.args.ty.now c.in-Field.name c.in-Field.part c.deref-in-Field.result.now c.in-Field.is c.deref-in-Field.ensures
    (c.in_err-rests-in-Field.ensures.large (large-again _ e)))

pub once_in-returns-in_err-made-in-Field-clause-large : goal.once_in-returns-in_err-made-in-Field-clause-large
once_in-returns-in_err-made-in-Field-clause-large t c =
    let p = err_from_is_err_and c.from_residual-in_err-made-in-Field.result c.from_residual-in_err-made-in-Field.ensures.1 in
    rw (p.1, p.2) (λ e. subst IsTooLarge
    (field-once c.args.ty.now c.in-Field.name c.in-Field.part c.deref-in-Field.result.now _ c.in-Field.is
    c.deref-in-Field.ensures c.in_ok-rests-in-Field.ensures.ok)
    (c.in_err-made-in-Field.ensures.large (large-error _ e)))

pub once_in-returns-in_ok-made-in-Field-clause-ok : goal.once_in-returns-in_ok-made-in-Field-clause-ok
once_in-returns-in_ok-made-in-Field-clause-ok t c =
    c.in_ok-made-in-Field.ensures.ok
    ∙ field-once c.args.ty.now c.in-Field.name c.in-Field.part c.deref-in-Field.result.now _ c.in-Field.is
    c.deref-in-Field.ensures c.in_ok-rests-in-Field.ensures.ok

pub once_in_all-loop-ty-init : goal.once_in_all-loop-ty-init
once_in_all-loop-ty-init t c = empty-paths c.new-paths.result c.new-paths.ensures

pub once_in_all-meet_with-requires : goal.once_in_all-meet_with-requires
once_in_all-meet_with-requires t c =
    subst (λ P. once P ≡ P) (sym c.loop-ty.invariant) (once-distinct (distinct-once (first_paths c.loop-ty.ty-index c.as_slice-ty-items.result.now)))

pub once_in_all-returns-in_err-member-clause-large : goal.once_in_all-returns-in_err-member-clause-large
once_in_all-returns-in_err-member-clause-large t c =
    let p = err_from_is_err_and c.from_residual.result c.from_residual.ensures.1 in
    rw (p.1, p.2) (λ e. subst (λ As. IsTooLarge (once (all_paths As))) (sym c.as_slice-ty-items.ensures.reading)
    (large-member c.as_slice-ty-items.result.now c.loop-ty.ty-index c.ty-item.result c.loop-ty-test.true c.ty-item.is
    (c.in_err-member.ensures.large (large-again _ e))))

pub once_in_all-returns-in_err-paths-clause-large : goal.once_in_all-returns-in_err-paths-clause-large
once_in_all-returns-in_err-paths-clause-large t c =
    let p = err_from_is_err_and c.from_residual-in_err-paths.result c.from_residual-in_err-paths.ensures.1 in
    rw (p.1, p.2) (λ e. subst (λ As. IsTooLarge (once (all_paths As))) (sym c.as_slice-ty-items.ensures.reading)
    (large-members c.as_slice-ty-items.result.now (c.loop-ty.ty-index + 1)
    (subst IsTooLarge (members-next c.as_slice-ty-items.result.now c.loop-ty.ty-index c.ty-item.result (plain_paths c.loop-ty.paths) _
    c.loop-ty-test.true c.ty-item.is c.loop-ty.invariant c.in_ok-member.ensures.ok)
    (c.in_err-paths.ensures.large (large-error _ e)))))

pub once_in_all-loop-ty-preserved : goal.once_in_all-loop-ty-preserved
once_in_all-loop-ty-preserved t c =
    c.in_ok-paths.ensures.ok
    ∙ members-next c.as_slice-ty-items.result.now c.loop-ty.ty-index c.ty-item.result (plain_paths c.loop-ty.paths) _
    c.loop-ty-test.true c.ty-item.is c.loop-ty.invariant c.in_ok-member.ensures.ok

pub once_in_all-returns-clause-ok : goal.once_in_all-returns-clause-ok
once_in_all-returns-clause-ok t c =
    c.loop-ty.invariant
    ∙ (ap once (first_paths-all c.as_slice-ty-items.result.now c.loop-ty.ty-index c.loop-ty-test.false)
    ∙ ap (λ As. once (all_paths As)) (sym c.as_slice-ty-items.ensures.reading))
