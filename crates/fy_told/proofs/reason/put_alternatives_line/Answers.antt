use Rattle.std.proofs.Common.{[], ◌∷◌, ap, codes}
use Rattle.std.proofs.lemmas.Result.{on_ok_weaker}
use Rattle.fy_phrase.specs.Reads.{reads}
use Rattle.fy_show.specs.Reading.{known_in}
use Rattle.fy_told.specs.ReasonTexts.{alternative_texts, alternatives_of, listed}
use Rattle.fy_told.proofs.LineLemmas.{ended}
use Rattle.fy_told.proofs.reason.put_alternatives_line.Goals as goal

pub returns : goal.returns
returns c =
    on_ok_weaker c.put-2.result
    (λ e. ended c.args.text.now.items (codes "  Its alternatives are ") _ (listed [] (alternative_texts (known_in c.args.view.now) 0 (alternatives_of (reads c.args.p.now))))
    (codes ".") (10 ∷ []) _ _ _ (ap (λ As. listed [] (alternative_texts (known_in c.args.view.now) 0 As)) c.alternatives_in.ensures)
    c.in_ok-put.ensures c.in_ok-put_alternatives.ensures e)
    c.put-2.ensures
