use Rattle.std.proofs.Common.{None}
use Rattle.std.proofs.lemmas.Result.{IfOk-weaker}
use Rattle.fy_tool.specs.Given.{by_text}
use Rattle.fy_tool.proofs.Drawing.{drawn_program}
use Rattle.fy_tool.proofs.tree.drawn_found.Goals as goal

pub drawn_under-requires-clause-limits : goal.drawn_under-requires-clause-limits
drawn_under-requires-clause-limits c = let h = rw c.in-Ok-Ok.field-0-is at c.in-Ok-Ok.ensures.checked in h.limits

pub returns-in-Ok-Ok-clause-drawn : goal.returns-in-Ok-Ok-clause-drawn
returns-in-Ok-Ok-clause-drawn c =
    let h = rw c.in-Ok-Ok.field-0-is at c.in-Ok-Ok.ensures.checked in
    IfOk-weaker c.drawn_under.result _ _ (λ found under. drawn_program c.args.text.now c.in-Ok-Ok.program c.args.drawing found h under) c.drawn_under.ensures.drawn

pub returns-in-Ok-Err-clause-drawn : goal.returns-in-Ok-Err-clause-drawn
returns-in-Ok-Err-clause-drawn c = let h = rw c.in-Ok-Err.field-0-is at c.in-Ok-Err.ensures.checked in by_text None c.in-Ok-Err.why h
