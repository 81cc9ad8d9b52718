use Rattle.std.proofs.Common.{◌≡◌, true, sym, subst}
use Rattle.fy_types.specs.Once.{are_same, once}
use Rattle.fy_types.specs.Reading.{plain_paths}
use Rattle.fy_memo.proofs.EachLemmas.{same-itself}
use Rattle.fy_least.proofs.bound.Bound.of_form.Goals as goal

pub invariant_of-result : goal.invariant_of-result
invariant_of-result c =
    let P = plain_paths c.args.form.now.paths in
    record {
      each_once = subst (λ Q. are_same (once P) Q ≡ true) (sym c.each.ensures) (same-itself (once P));
    }
