use Rattle.std.proofs.Common.{◌≡◌, true, subst}
use Rattle.fy_types.specs.Once.{are_same}
use Rattle.fy_types.specs.Reading.{plain_paths}
use Rattle.fy_memo.proofs.EachLemmas.{same-itself}
use Rattle.fy_memo.proofs.table.Table.add.Goals as goal

pub invariant_of-push : goal.invariant_of-push
invariant_of-push c =
    let P = plain_paths c.in-Ok.form.paths in
    record {
      of_type = subst (λ Q. are_same P Q ≡ true) c.in-Ok.ensures.ok (same-itself P);
      few = c.in-Ok.ensures.within.few;
      shallow = c.in-Ok.ensures.within.shallow;
    }
