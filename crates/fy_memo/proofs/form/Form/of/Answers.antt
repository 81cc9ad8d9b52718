use Rattle.std.proofs.Common.{◌≡◌, true, sym, ap, ◌∙◌, subst}
use Rattle.std.proofs.lemmas.Result.{err_from_is_err_and}
use Rattle.fy_types.specs.Bounds.{meet_of}
use Rattle.fy_types.specs.Limits.{IsTooLarge}
use Rattle.fy_types.specs.Once.{are_same, once}
use Rattle.fy_types.specs.Reading.{plain_paths}
use Rattle.fy_memo.proofs.EachLemmas.{each-once, empty-paths, large-again, same-itself}
use Rattle.fy_memo.proofs.SmallerLemmas.{once-large}
use Rattle.fy_memo.proofs.form.Form.of.Goals as goal

pub returns-in_err-each-clause-large : goal.returns-in_err-each-clause-large
returns-in_err-each-clause-large c =
    let P = plain_paths c.in_ok-paths.paths in
    let p = err_from_is_err_and c.from_residual-in_err-each.result c.from_residual-in_err-each.ensures.1 in
    rw (p.1, p.2) (λ e. subst IsTooLarge c.in_ok-paths.ensures.ok (once-large P
    (subst IsTooLarge (ap (λ X. meet_of X P) (empty-paths c.new.result c.new.ensures)) (c.in_err-each.ensures.large (large-again _ e)))))

pub invariant_of-result : goal.invariant_of-result
invariant_of-result c =
    let P = plain_paths c.in_ok-paths.paths in
    record {
      each_once = each-once c.in_ok-each.each c.in_ok-paths.paths
          (c.in_ok-each.ensures.ok ∙ ap (λ X. meet_of X P) (empty-paths c.new.result c.new.ensures))
          (sym c.len.ensures ∙ (c.if-len.true ∙ c.len-2.ensures));
    }

pub invariant_of-result-2 : goal.invariant_of-result-2
invariant_of-result-2 c =
    let P = plain_paths c.in_ok-paths.paths in
    record {
      each_once = subst (λ Q. are_same (once P) Q ≡ true)
          (sym (c.in_ok-each.ensures.ok ∙ ap (λ X. meet_of X P) (empty-paths c.new.result c.new.ensures)))
          (same-itself (once P));
    }
