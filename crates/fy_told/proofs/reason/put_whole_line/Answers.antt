use Rattle.std.proofs.Common.{[], ◌∷◌, codes, refl}
use Rattle.std.proofs.lemmas.Result.{on_ok_weaker}
use Rattle.fy_derive.specs.Shown.{shown}
use Rattle.fy_show.specs.Reading.{known_in}
use Rattle.fy_told.specs.ReasonTexts.{type_told}
use Rattle.fy_told.proofs.LineLemmas.{ended}
use Rattle.fy_told.proofs.reason.put_whole_line.Goals as goal

pub returns : goal.returns
returns c =
    let A = type_told (known_in c.args.view.now) (shown c.args.table.now c.args.number) in
    on_ok_weaker c.put-2.result
    (λ e. ended c.args.text.now.items (codes "  The whole concludes ") A A (codes ", and a program is a comm, to the letter.") (10 ∷ []) _ _ _ refl c.in_ok-put.ensures c.in_ok-put_type.ensures e)
    c.put-2.ensures
