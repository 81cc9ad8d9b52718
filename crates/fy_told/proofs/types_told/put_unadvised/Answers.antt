use Rattle.std.proofs.Common.{◌++◌, sym, ap, ◌∙◌}
use Rattle.std.proofs.lemmas.List.{append-nil}
use Rattle.fy_derive.specs.Shown.{shown}
use Rattle.fy_show.specs.Reading.{known_in}
use Rattle.fy_told.proofs.AdviceLemmas.{others-unadvised}
use Rattle.fy_told.proofs.types_told.put_unadvised.Goals as goal

pub returns-else-all-eq1 : goal.returns-else-all-eq1
returns-else-all-eq1 c = λ n.
    let T = c.args.text.now.items in
    let k = known_in c.args.view.now in
    let t = c.args.table.now in
    rw c.in-OneOf.is
    (sym (ap (λ x. T ++ x) (others-unadvised k n (shown t c.args.number) t c.in-OneOf.all.items (rw c.as_slice-all.ensures.value at c.if-all-eq1.false)) ∙ append-nil T))
