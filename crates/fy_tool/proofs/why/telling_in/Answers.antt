use Rattle.fy_front.proofs.Checking.{long_text}
use Rattle.fy_tool.proofs.Explaining.{told_long}
use Rattle.fy_tool.proofs.why.telling_in.Goals as goal

pub returns-in_default-clause-told : goal.returns-in_default-clause-told
returns-in_default-clause-told g c =
    let long = rw c.in_default.is at c.in_ok-text.ensures.content in
    (long.content, long.told, told_long long.content c.args.width (long_text long.content long.longer))

pub returns-clause-told : goal.returns-clause-told
returns-clause-told g c =
    let content = rw c.in-Some.is at c.in_ok-text.ensures.content in
    let told = rw c.as_slice.ensures.value at c.in_ok-told.ensures.told in
    (c.in-Some.text.items, content.0, told)
