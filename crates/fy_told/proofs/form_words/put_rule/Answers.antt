use Rattle.std.proofs.Common.{◌++◌, codes, ap, sym, ◌∙◌}
use Rattle.std.proofs.lemmas.Result.{on_ok_weaker}
use Rattle.fy_types.specs.Print.{atom_text}
use Rattle.fy_derive.proofs.FormLemmas.{Case-tree, App-tree, Seq-tree, WhileDo-tree, Forever-tree, New-tree, Cells-tree, Accept-tree, Put-tree}
use Rattle.fy_told.specs.ReasonTexts.{rule_text}
use Rattle.fy_told.proofs.LineLemmas.{three-left-nil, four-left}
use Rattle.fy_told.proofs.TreeLemmas.{Skip-tree}
use Rattle.fy_told.proofs.form_words.put_rule.Goals as goal

pub returns-in-Case : goal.returns-in-Case
returns-in-Case c =
    on_ok_weaker c.put-in-Case.result
    (λ e. e ∙ ap (λ t. c.args.text.now.items ++ rule_text t) (sym (Case-tree c.args.p.now _ _ _ c.in-Case.is)))
    c.put-in-Case.ensures

pub returns-in-App : goal.returns-in-App
returns-in-App c =
    on_ok_weaker c.put-in-App.result
    (λ e. e ∙ ap (λ t. c.args.text.now.items ++ rule_text t) (sym (App-tree c.args.p.now _ _ _ c.in-App.is)))
    c.put-in-App.ensures

pub returns-in-Skip : goal.returns-in-Skip
returns-in-Skip c =
    on_ok_weaker c.put-in-Skip.result
    (λ e. e ∙ ap (λ t. c.args.text.now.items ++ rule_text t) (sym (Skip-tree c.args.p.now _ c.in-Skip.is)))
    c.put-in-Skip.ensures

pub returns-in-Seq : goal.returns-in-Seq
returns-in-Seq c =
    on_ok_weaker c.put-in-Seq.result
    (λ e. e ∙ ap (λ t. c.args.text.now.items ++ rule_text t) (sym (Seq-tree c.args.p.now _ _ _ c.in-Seq.is)))
    c.put-in-Seq.ensures

pub returns-in-WhileDo : goal.returns-in-WhileDo
returns-in-WhileDo c =
    on_ok_weaker c.put-in-WhileDo.result
    (λ e. e ∙ ap (λ t. c.args.text.now.items ++ rule_text t) (sym (WhileDo-tree c.args.p.now _ _ _ c.in-WhileDo.is)))
    c.put-in-WhileDo.ensures

pub returns-in-Forever : goal.returns-in-Forever
returns-in-Forever c =
    on_ok_weaker c.put-in-Forever.result
    (λ e. e ∙ ap (λ t. c.args.text.now.items ++ rule_text t) (sym (Forever-tree c.args.p.now _ _ c.in-Forever.is)))
    c.put-in-Forever.ensures

pub returns-in-New : goal.returns-in-New
returns-in-New c =
    on_ok_weaker c.put_from-in-New.result
    (λ e. e
    ∙ three-left-nil c.args.text.now.items (codes "from ") c.word_of-in-New.result.now (codes " and C follows C, which is comm or compl")
    ∙ ap (λ w. c.args.text.now.items ++ ((codes "from " ++ w) ++ codes " and C follows C, which is comm or compl")) (c.word_of-in-New.ensures ∙ ap atom_text c.data_atom.ensures)
    ∙ ap (λ t. c.args.text.now.items ++ rule_text t) (sym (New-tree c.args.p.now _ _ _ _ _ c.in-New.is)))
    c.put_from-in-New.ensures

pub returns-in-Cells : goal.returns-in-Cells
returns-in-Cells c =
    on_ok_weaker c.put-in-Cells.result
    (λ e. e ∙ ap (λ t. c.args.text.now.items ++ rule_text t) (sym (Cells-tree c.args.p.now _ _ _ _ c.in-Cells.is)))
    c.put-in-Cells.ensures

pub returns-in-Accept : goal.returns-in-Accept
returns-in-Accept c =
    on_ok_weaker c.put_from-in-Accept.result
    (λ e. e
    ∙ four-left c.args.text.now.items (codes "from ") (codes "comm") (codes " follows ") c.word_of-in-Accept.result.now
    ∙ ap (λ w. c.args.text.now.items ++ (((codes "from " ++ codes "comm") ++ codes " follows ") ++ w)) (c.word_of-in-Accept.ensures ∙ ap atom_text c.acceptor_atom.ensures)
    ∙ ap (λ t. c.args.text.now.items ++ rule_text t) (sym (Accept-tree c.args.p.now _ _ _ _ c.in-Accept.is)))
    c.put_from-in-Accept.ensures

pub returns-in-Put : goal.returns-in-Put
returns-in-Put c =
    on_ok_weaker c.put_from-in-Put.result
    (λ e. e
    ∙ three-left-nil c.args.text.now.items (codes "from ") c.word_of-in-Put.result.now (codes " follows comm")
    ∙ ap (λ w. c.args.text.now.items ++ ((codes "from " ++ w) ++ codes " follows comm")) (c.word_of-in-Put.ensures ∙ ap atom_text c.put_atom.ensures)
    ∙ ap (λ t. c.args.text.now.items ++ rule_text t) (sym (Put-tree c.args.p.now _ _ _ c.in-Put.is)))
    c.put_from-in-Put.ensures
