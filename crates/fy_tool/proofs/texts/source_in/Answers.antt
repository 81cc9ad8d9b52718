use Rattle.std.proofs.Common.{refl}
use Rattle.fy_front.proofs.Checking.{unjudged_long}
use Rattle.fy_tool.proofs.texts.source_in.Goals as goal

pub returns-in_default-clause-read : goal.returns-in_default-clause-read
returns-in_default-clause-read g c =
    let long = rw c.in_default.is at c.in_ok-text.ensures.content in
    (long.content, long.told, unjudged_long long.content long.longer)

pub returns-in-Ok-clause-read : goal.returns-in-Ok-clause-read
returns-in-Ok-clause-read g c =
    let content = rw c.in-Some.is at c.in_ok-text.ensures.content in
    let checked = rw (c.as_slice.ensures.value, c.in-Ok.is) at c.in_ok-found.ensures.core in
    (c.in-Some.text.items, content.0, (refl, checked))

pub returns-in-Err-clause-read : goal.returns-in-Err-clause-read
returns-in-Err-clause-read g c =
    let content = rw c.in-Some.is at c.in_ok-text.ensures.content in
    let checked = rw (c.as_slice.ensures.value, c.in-Err.is) at c.in_ok-found.ensures.core in
    (c.in-Some.text.items, content.0, checked)
