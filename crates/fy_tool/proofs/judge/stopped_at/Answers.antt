use Rattle.std.proofs.Common.{subst}
use Rattle.fy_phrase.specs.Reads.{reads}
use Rattle.fy_derive.specs.Reading.{plain_derivation}
use Rattle.fy_tool.specs.Given.{HasBinders}
use Rattle.fy_tool.proofs.Judging.{judged_stopped, judged_unread}
use Rattle.fy_tool.proofs.judge.stopped_at.Goals as goal

pub returns-in-Err-Refused-clause-judged : goal.returns-in-Err-Refused-clause-judged
returns-in-Err-Refused-clause-judged c =
    let refused = rw c.in-Err-Refused.field-0-is at c.in-Err-Refused.ensures.refused in
    rw c.in-Err-Refused.field-0-is
    (judged_unread c.args.text.now c.args.names.now (reads c.args.phrase.now) (plain_derivation c.args.derivation.now) c.in-Err-Refused.why refused)

pub returns-in-Ok-lines_of-clause-judged : goal.returns-in-Ok-lines_of-clause-judged
returns-in-Ok-lines_of-clause-judged c =
    let named = subst (λ at. HasBinders c.args.text.now at c.in-Ok.binders.items) c.place.ensures c.in-Ok.ensures.binders in
    let lines = rw c.as_slice.ensures.value at c.in-Ok-lines_of.ensures.lines in
    judged_stopped c.args.text.now c.args.names.now (reads c.args.phrase.now) (plain_derivation c.args.derivation.now) c.args.node c.in-Ok.binders.items c.in-Ok-lines_of.lines
    c.requires.stops named lines
