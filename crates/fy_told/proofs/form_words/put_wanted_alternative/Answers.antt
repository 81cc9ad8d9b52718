use Rattle.std.proofs.Common.{◌++◌, ◌-◌, length, ap, sym, ◌∙◌, append_assoc, codes, decimal}
use Rattle.std.proofs.lemmas.Result.{on_ok_weaker}
use Rattle.fy_derive.proofs.FormLemmas.{Lam-tree}
use Rattle.fy_told.specs.ReasonTexts.{alternative_wanted}
use Rattle.fy_told.proofs.CountLemmas.{last-alternative}
use Rattle.fy_told.proofs.form_words.put_wanted_alternative.Goals as goal

pub returns-in-Lam : goal.returns-in-Lam
returns-in-Lam c =
    on_ok_weaker c.put_last.result
    (λ e. e
    ∙ append_assoc c.args.text.now.items (codes "`alt I`, I from 0 to ") (decimal (length c.as_slice.result.now - 1))
    ∙ ap (λ n. c.args.text.now.items ++ (codes "`alt I`, I from 0 to " ++ decimal n)) (last-alternative _ _ c.as_slice.ensures.reading)
    ∙ ap (λ t. c.args.text.now.items ++ alternative_wanted t) (sym (Lam-tree c.args.p.now _ _ _ _ c.in-Lam.is)))
    c.put_last.ensures
