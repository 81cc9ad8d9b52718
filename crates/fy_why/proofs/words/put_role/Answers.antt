use Rattle.std.proofs.Common.{◌++◌, ap, sym, ◌∙◌}
use Rattle.std.proofs.lemmas.Result.{on_ok_weaker}
use Rattle.fy_derive.proofs.FormLemmas.{Seq-tree}
use Rattle.fy_why.specs.Sentences.{role}
use Rattle.fy_why.proofs.words.put_role.Goals as goal

pub returns-in-Seq : goal.returns-in-Seq
returns-in-Seq c =
    let T = c.args.text.now.items in
    on_ok_weaker c.put-in-Seq.result
    (λ e. e ∙ (ap (λ w. T ++ w) c.first_or-word.ensures ∙ ap (λ t. T ++ role t c.args.index) (sym (Seq-tree c.args.p.now _ _ _ c.in-Seq.is))))
    c.put-in-Seq.ensures
