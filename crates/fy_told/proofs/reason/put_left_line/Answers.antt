use Rattle.std.proofs.Common.{[], ◌∷◌, codes}
use Rattle.std.proofs.lemmas.Result.{on_ok_weaker}
use Rattle.fy_phrase.specs.Reads.{reads}
use Rattle.fy_derive.specs.Kinds.{kind_of}
use Rattle.fy_derive.specs.Shown.{shown}
use Rattle.fy_show.specs.Reading.{known_in}
use Rattle.fy_told.specs.ReasonTexts.{kind_text, type_told}
use Rattle.fy_told.proofs.LineLemmas.{five-joined}
use Rattle.fy_told.proofs.reason.put_left_line.Goals as goal

pub returns : goal.returns
returns c =
    let k = known_in c.args.view.now in
    on_ok_weaker c.put-3.result
    (λ e. five-joined c.args.text.now.items (codes "  The left operand concludes ") (type_told k (shown c.args.table.now c.args.number)) (codes ", which begins with ")
    (kind_text k (kind_of (reads c.args.right.now))) (codes ".") (10 ∷ []) _ _ _ _ _
    c.in_ok-put.ensures c.in_ok-put_type.ensures c.in_ok-put-2.ensures c.in_ok-put_demand.ensures e)
    c.put-3.ensures
