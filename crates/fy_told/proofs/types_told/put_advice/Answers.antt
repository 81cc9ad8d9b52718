use Rattle.std.proofs.Common.{◌++◌, ap, ◌∙◌}
use Rattle.std.proofs.lemmas.Result.{on_ok_weaker}
use Rattle.fy_derive.specs.Shown.{shown}
use Rattle.fy_reasons.specs.Stopping.{asking_read}
use Rattle.fy_show.specs.Reading.{known_in}
use Rattle.fy_told.specs.ReasonTexts.{advice_text}
use Rattle.fy_told.proofs.types_told.put_advice.Goals as goal

pub returns-in-None : goal.returns-in-None
returns-in-None c =
    let t = c.args.table.now in
    let none = rw c.in-None.is at c.in_ok-above.ensures.advised in
    on_ok_weaker c.put_unadvised.result
    (λ e. e ∙ ap (λ o. c.args.text.now.items ++ advice_text (known_in c.args.view.now) c.args.node (asking_read t c.args.asking.now) (shown t c.args.number) o) none)
    (c.put_unadvised.ensures c.args.node)
