use Rattle.std.proofs.Common.{None}
use Rattle.fy_tool.proofs.Derived.{text_unfetched, was_found, was_refused}
use Rattle.fy_tool.proofs.given.found_in.Goals as goal

pub returns-in-Ok-Ok-clause-given : goal.returns-in-Ok-Ok-clause-given
returns-in-Ok-Ok-clause-given g c =
    let h = rw c.in-Ok-Ok.field-0-is at c.in-Ok-Ok.ensures.read in
    was_found c.args.file.now _ _ _ h.0 c.in-Ok-Ok.program h.1 c.in-Ok-Ok.ensures.called h.2

pub returns-in-Ok-Err-clause-given : goal.returns-in-Ok-Err-clause-given
returns-in-Ok-Err-clause-given g c =
    let h = rw c.in-Ok-Err.field-0-is at c.in-Ok-Err.ensures.read in
    was_refused c.args.file.now _ _ _ h.0 c.in-Ok-Err.why h.1 c.in-Ok-Err.ensures.called h.2

pub returns-in-Err-clause-stopped : goal.returns-in-Err-clause-stopped
returns-in-Err-clause-stopped g c = text_unfetched c.args.file.now None _ _ _ _ _ c.in-Err.stop c.in-Err.ensures.counted c.in-Err.ensures.called
