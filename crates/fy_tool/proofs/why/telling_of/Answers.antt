use Rattle.std.proofs.Common.{sym, ◌∙◌}
use Rattle.fy_front.proofs.Checking.{is_accepted}
use Rattle.fy_tool.proofs.Explaining.{told_refused, told_unread, told_why}
use Rattle.fy_tool.proofs.why.telling_of.Goals as goal

pub returns-in-Ok-clause-told : goal.returns-in-Ok-clause-told
returns-in-Ok-clause-told c =
    let is = rw c.in-Ok.is at c.in_ok-found.ensures.checked in
    is_accepted is

pub returns-in_default-clause-told : goal.returns-in_default-clause-told
returns-in_default-clause-told c =
    let refused = rw c.in-Err.is at c.in_ok-found.ensures.checked in
    told_refused c.args.text.now c.in-Err.why c.args.width refused (sym c.untyped_at.ensures ∙ c.in_default.is)

pub returns-in-Ok-lines_of-clause-told : goal.returns-in-Ok-lines_of-clause-told
returns-in-Ok-lines_of-clause-told c =
    let refused = rw c.in-Err.is at c.in_ok-found.ensures.checked in
    told_why c.args.text.now c.in-Err.why c.in-Some.place c.args.width c.in-Ok-lines_of.lines refused (sym c.untyped_at.ensures ∙ c.in-Some.is)
    c.in-Ok-lines_of.ensures.lines

pub returns-in-Err-Refused-clause-told : goal.returns-in-Err-Refused-clause-told
returns-in-Err-Refused-clause-told c =
    let refused = rw c.in-Err-Refused.field-0-is at c.in-Err-Refused.ensures.refused in
    rw c.in-Err-Refused.field-0-is (told_unread c.args.text.now c.in-Err-Refused.why c.args.width refused)
