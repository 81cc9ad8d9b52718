use Rattle.std.proofs.Common.{ap, ◌∙◌, map, arith}
use Rattle.std.specs.Borrow.{Bor}
use Rattle.fy_base.specs.Outside.{Bytes}
use Rattle.fy_tool.proofs.Lists.{ends_open, ends_with, few_lines, many_listed, names_listed}
use Rattle.fy_tool.proofs.listed.names_on.Goals as goal

pub returns-in_default : goal.returns-in_default
returns-in_default c = ends_open c.args.bytes.now c.in_default.ensures.cases

pub returns-then-lines-gt-MOST_UNITS : goal.returns-then-lines-gt-MOST_UNITS
returns-then-lines-gt-MOST_UNITS c =
    let text = c.in-Some.text.now in
    many_listed c.args.bytes.now text c.as_slice-lines.result.now (ends_with c.args.bytes.now text c.in-Some.ensures.cases.0 c.in-Some.ensures.cases.1)
    (ap (map (λ (line : Bor Bytes). line.now)) c.as_slice-lines.ensures.value ∙ c.in_ok-lines.ensures) c.if-lines-gt-MOST_UNITS.true

pub returns : goal.returns
returns c =
    let text = c.in-Some.text.now in
    let same = ap (map (λ (line : Bor Bytes). line.now)) c.as_slice-lines.ensures.value ∙ c.in_ok-lines.ensures in
    names_listed c.args.bytes.now text (map (λ (line : Bor Bytes). line.now) c.as_slice-lines.result.now) c.names_in.result (omega (arith, c.if-bytes-gt-MOST_LIST.false))
    (ends_with c.args.bytes.now text c.in-Some.ensures.cases.0 c.in-Some.ensures.cases.1) same
    (few_lines c.as_slice-lines.result.now (omega (arith, c.if-lines-gt-MOST_UNITS.false))) c.names_in.ensures
