use Rattle.std.proofs.Common.{Some, ap, sym, ◌∙◌}
use Rattle.fy_phrase.specs.Reads.{reads}
use Rattle.fy_derive.specs.Rules.{nothing}
use Rattle.fy_derive.proofs.FormLemmas.{Case-tree}
use Rattle.fy_told.specs.ReasonTexts.{premise_count}
use Rattle.fy_told.proofs.CountLemmas.{part-premises}
use Rattle.fy_told.proofs.form_words.wanted_premises.Goals as goal

pub returns-in-Case : goal.returns-in-Case
returns-in-Case c =
    ap Some (part-premises (nothing, reads c.in-Case.field-0.value) _ _ c.as_slice.ensures.reading) ∙ ap premise_count (sym (Case-tree c.args.p.now _ _ _ c.in-Case.is))
