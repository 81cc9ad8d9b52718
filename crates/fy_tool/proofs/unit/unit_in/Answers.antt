use Rattle.fy_tool.specs.Units.{too_long}
use Rattle.fy_tool.proofs.unit.unit_in.Goals as goal

pub returns-in_default-clause-compiles : goal.returns-in_default-clause-compiles
returns-in_default-clause-compiles g c =
    let long = rw c.in_default.is at c.in_ok-text.ensures.content in
    (long.content, long.told, too_long long.longer)

pub returns-clause-compiles : goal.returns-clause-compiles
returns-clause-compiles g c =
    let content = rw c.in-Some.is at c.in_ok-text.ensures.content in
    let compiled = rw c.as_slice.ensures.value at c.in_ok-found.ensures.unit in
    (c.in-Some.text.items, content.0, compiled)
