use Rattle.std.proofs.Common.{[], ◌∷◌, codes}
use Rattle.std.proofs.lemmas.Result.{on_ok_weaker}
use Rattle.fy_derive.specs.Shown.{shown}
use Rattle.fy_reasons.specs.Expected.{lacking}
use Rattle.fy_show.specs.Reading.{known_in}
use Rattle.fy_told.specs.ReasonTexts.{lacking_text, type_told}
use Rattle.fy_told.proofs.LineLemmas.{six-joined}
use Rattle.fy_told.proofs.reason.put_not_below.Goals as goal

pub returns : goal.returns
returns c =
    let k = known_in c.args.view.now in
    let A = shown c.args.table.now c.args.a in
    let B = shown c.args.table.now c.args.b in
    on_ok_weaker c.put-3.result
    (λ e. six-joined c.args.text.now.items (codes "  ") (type_told k A) (codes " isn't below ") (type_told k B) (lacking_text k (lacking A B)) (codes ".") (10 ∷ []) _ _ _ _ _ _
    c.in_ok-put.ensures c.in_ok-put_type.ensures c.in_ok-put-2.ensures c.in_ok-put_type-2.ensures c.in_ok-put_lacking.ensures e)
    c.put-3.ensures
