use Rattle.std.proofs.Common.{subst}
use Rattle.fy_phrase.specs.Reads.{reads}
use Rattle.fy_derive.specs.Reading.{plain_derivation}
use Rattle.fy_tool.specs.Given.{HasBinders}
use Rattle.fy_tool.proofs.Drawing.{drawn_lines, drawn_unread}
use Rattle.fy_tool.proofs.tree.drawn_under.Goals as goal

pub returns-in-Err-Refused-clause-drawn : goal.returns-in-Err-Refused-clause-drawn
returns-in-Err-Refused-clause-drawn c =
    let refused = rw c.in-Err-Refused.field-0-is at c.in-Err-Refused.ensures.refused in
    rw c.in-Err-Refused.field-0-is
    (drawn_unread c.args.text.now c.args.names.now c.args.drawing (reads c.args.phrase.now) (plain_derivation c.args.derivation.now) c.in-Err-Refused.why refused)

pub returns-in-Ok-lines_of-clause-drawn : goal.returns-in-Ok-lines_of-clause-drawn
returns-in-Ok-lines_of-clause-drawn c =
    let has = subst (λ at. HasBinders c.args.text.now at c.in-Ok.binders.items) c.place.ensures c.in-Ok.ensures.binders in
    let lines = rw c.as_slice.ensures.value at c.in-Ok-lines_of.ensures.lines in
    drawn_lines c.args.text.now c.args.names.now c.args.drawing (reads c.args.phrase.now) (plain_derivation c.args.derivation.now) c.in-Ok.binders.items c.in-Ok-lines_of.lines has lines
