use Rattle.std.proofs.Common.{◌++◌, append_assoc, ap, codes, ◌∙◌}
use Rattle.std.proofs.lemmas.Result.{on_ok_weaker}
use Rattle.fy_derive.specs.Shown.{shown}
use Rattle.fy_show.specs.Reading.{known_in}
use Rattle.fy_told.specs.ReasonTexts.{lacking_text, type_told}
use Rattle.fy_told.proofs.reason.put_lacking.Goals as goal

pub returns-in_ok-put-in-Some : goal.returns-in_ok-put-in-Some
returns-in_ok-put-in-Some c =
    let T = c.args.text.now.items in
    let k = known_in c.args.view.now in
    let u = c.lacking.new.table in
    let C = type_told k (shown u c.in-Some.single) in
    let same = rw c.in-Some.is at c.in_ok-lacking.ensures.lacking in
    on_ok_weaker c.put_type.result
    (λ e. e ∙ (ap (λ t. t ++ C) c.in_ok-put-in-Some.ensures ∙ (append_assoc T (codes ": it has no ") C ∙ ap (λ o. T ++ lacking_text k o) same)))
    c.put_type.ensures
