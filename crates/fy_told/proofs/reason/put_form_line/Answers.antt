use Rattle.std.proofs.Common.{codes}
use Rattle.std.proofs.lemmas.Result.{on_ok_weaker}
use Rattle.fy_phrase.specs.Reads.{reads}
use Rattle.fy_told.specs.ReasonTexts.{form_text, wants_text}
use Rattle.fy_told.proofs.LineLemmas.{joined}
use Rattle.fy_told.proofs.reason.put_form_line.Goals as goal

pub returns : goal.returns
returns c =
    on_ok_weaker c.put_wanted.result
    (λ e. joined c.args.text.now.items (codes "  ") (codes "This is ") c.form_word.result.now (form_text (reads c.args.p.now)) (codes ", which wants ") (wants_text (reads c.args.p.now))
    _ _ _ _ c.form_word.ensures c.in_ok-put.ensures c.in_ok-put-2.ensures c.in_ok-put-3.ensures e)
    c.put_wanted.ensures
