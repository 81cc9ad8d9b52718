use Rattle.std.proofs.Common.{None}
use Rattle.fy_front.specs.declared.refusal.Refusal.TheVariants as refusal
use Rattle.fy_front.proofs.Checking.{unjudged_long}
use Rattle.fy_tool.proofs.Derived.{text_unfetched}
use Rattle.fy_tool.proofs.Drawing.{drawn_first, drawn_long, first_fetched}
use Rattle.fy_tool.proofs.tree.found_in.Goals as goal

pub returns-in-Ok-None-clause-drawn : goal.returns-in-Ok-None-clause-drawn
returns-in-Ok-None-clause-drawn g c =
    let long = rw c.in-Ok-None.field-0-is at c.in-Ok-None.ensures.content in
    drawn_long c.args.file.now _ _ _ long.content refusal.Length c.args.drawing long.told c.in-Ok-None.ensures.called (unjudged_long long.content long.longer)

pub returns-in-Err-clause-stopped : goal.returns-in-Err-clause-stopped
returns-in-Err-clause-stopped g c = text_unfetched c.args.file.now None _ _ _ _ _ c.in-Err.stop c.in-Err.ensures.counted c.in-Err.ensures.called

pub returns-clause-stopped : goal.returns-clause-stopped
returns-clause-stopped g c =
    let content = rw c.in-Ok-Some.field-0-is at c.in-Ok-Some.ensures.content in
    first_fetched c.args.file.now c.in-Ok-Some.text.items _ _ _ _ _ c.drawn_found.result content.0 c.in-Ok-Some.ensures.called c.drawn_found.ensures.memory

pub returns-clause-drawn : goal.returns-clause-drawn
returns-clause-drawn g c =
    let content = rw c.in-Ok-Some.field-0-is at c.in-Ok-Some.ensures.content in
    let found = rw c.as_slice.ensures.value at c.drawn_found.ensures.drawn in
    drawn_first c.args.file.now _ _ _ c.in-Ok-Some.text.items c.args.drawing c.drawn_found.result content.0 c.in-Ok-Some.ensures.called found
