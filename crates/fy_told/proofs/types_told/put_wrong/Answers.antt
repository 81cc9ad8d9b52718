use Rattle.std.proofs.Common.{◌+◌, ◌++◌, append_assoc, ap, get_or, sym, ◌∙◌}
use Rattle.std.proofs.lemmas.Result.{on_ok_weaker}
use Rattle.fy_derive.specs.Shown.{all_shown, shown}
use Rattle.fy_derive.specs.Tables.{type_at}
use Rattle.fy_derive.proofs.RuleLemmas.{type_at-shown}
use Rattle.fy_derive.proofs.Standings.{AreIn-at}
use Rattle.fy_reasons.specs.Expected.{advised}
use Rattle.fy_reasons.specs.Stopping.{asking_read}
use Rattle.fy_show.specs.Reading.{known_in}
use Rattle.fy_told.specs.ReasonTexts.{advice_text, asked_line}
use Rattle.fy_told.proofs.AdviceLemmas.{advice-same, asking-kept}
use Rattle.fy_told.proofs.types_told.put_wrong.Goals as goal

pub returns : goal.returns
returns c =
    let T = c.args.text.now.items in
    let t = c.args.table.now in
    let u = c.type_behind.new.table in
    let k = known_in c.args.view.now in
    let ks = c.args.done.now in
    let i = c.args.index in
    let n = c.args.node in
    let L = asked_line k (i + 1) (asking_read t c.args.asking.now) in
    let A = shown u (get_or ks i 0) in
    let told = advice_text k n (asking_read u c.args.asking.now) A (advised (asking_read u c.args.asking.now) A (shown u c.in_ok-behind.behind)) in
    on_ok_weaker c.put_advice.result
    (λ e. e
    ∙ (ap (λ x. x ++ told) c.in_ok-put_asked_line.ensures
    ∙ (append_assoc T L told
    ∙ ap (λ x. T ++ (L ++ x)) (advice-same k n (asking_read u c.args.asking.now) (asking_read t c.args.asking.now) A (type_at (all_shown t ks) i) (shown u c.in_ok-behind.behind) (type_at (all_shown t ks) (i + 1))
    (asking-kept t u c.args.asking.now c.in_ok-behind.ensures.extends c.requires.asking)
    (c.in_ok-behind.ensures.extends.same (get_or ks i 0) (AreIn-at i c.requires.done c.requires.index) ∙ sym (type_at-shown t ks i c.requires.index))
    c.in_ok-behind.ensures.stands))))
    c.put_advice.ensures
