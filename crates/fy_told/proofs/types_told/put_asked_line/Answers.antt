use Rattle.std.proofs.Common.{[], ◌∷◌, codes, decimal}
use Rattle.std.proofs.lemmas.Result.{on_ok_weaker}
use Rattle.fy_reasons.specs.Stopping.{asking_read}
use Rattle.fy_show.specs.Reading.{known_in}
use Rattle.fy_told.specs.ReasonTexts.{asked_text}
use Rattle.fy_told.proofs.LineLemmas.{five-joined}
use Rattle.fy_told.proofs.types_told.put_asked_line.Goals as goal

pub returns : goal.returns
returns c =
    let k = known_in c.args.view.now in
    on_ok_weaker c.put-3.result
    (λ e. five-joined c.args.text.now.items (codes "  Premise ") (decimal c.args.premise) (codes " has to conclude ")
    (asked_text k (asking_read c.args.table.now c.args.asking.now)) (codes ", to the letter.") (10 ∷ []) _ _ _ _ _
    c.in_ok-put.ensures c.in_ok-put_number.ensures c.in_ok-put-2.ensures c.in_ok-put_asking.ensures e)
    c.put-3.ensures
