use Rattle.std.proofs.Common.{ap, ◌∙◌, subst}
use Rattle.fy_phrase.specs.Reads.{reads}
use Rattle.fy_told.specs.ReasonTexts.{source_names}
use Rattle.fy_causes.specs.Hollow.{why_of}
use Rattle.fy_why.specs.Texts.{why_text}
use Rattle.fy_tool.specs.Given.{HasBinders}
use Rattle.fy_tool.proofs.why.lines_of.Goals as goal

pub returns-clause-lines : goal.returns-clause-lines
returns-clause-lines c =
    let core = c.in_ok-core.core in
    let p = reads core.phrase in
    record {
      p = p;
      is_judged = c.in_ok-core.ensures.core.is_judged;
      names = core.names;
      numbered = c.in_ok-core.ensures.core.named;
      binders = c.in_ok-binders.binders.items;
      named = subst (λ at. HasBinders c.args.text.now at c.in_ok-binders.binders.items) c.place.ensures c.in_ok-binders.ensures.binders;
      lines_are = c.in_ok-lines.ensures ∙ ap (λ bs. why_text c.args.width (source_names core.names bs) (why_of p)) c.as_slice.ensures.value;
    }
