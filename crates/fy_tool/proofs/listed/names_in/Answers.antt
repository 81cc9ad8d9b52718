use Rattle.std.proofs.Common.{sym, ◌∙◌, arith}
use Rattle.fy_tool.proofs.Lists.{empty_none, not_text, texts_more, texts_all}
use Rattle.fy_tool.proofs.listed.names_in.Goals as goal

pub returns-then-is_empty : goal.returns-then-is_empty
returns-then-is_empty c = not_text c.args.lines.now c.loop-line.line-index _ c.loop-line-test.true (empty_none _ (sym c.is_empty.ensures ∙ c.if-is_empty.true))

pub returns-in-Err : goal.returns-in-Err
returns-in-Err c = not_text c.args.lines.now c.loop-line.line-index _ c.loop-line-test.true (λ is. c.in-Err.ensures.cases.0 is.text)

pub loop-line-preserved : goal.loop-line-preserved
loop-line-preserved c =
    texts_more c.args.lines.now c.loop-line.line-index _ c.in-Ok.name c.loop-line.names c.push.new.self c.loop-line.invariant c.loop-line-test.true (sym c.is_empty.ensures ∙ c.if-is_empty.false) c.in-Ok.ensures.cases
    c.in_ok-push-in-Ok.ensures.items

pub returns : goal.returns
returns c = texts_all c.args.lines.now c.loop-line.line-index c.loop-line.names (omega (arith, c.loop-line-test.false)) c.loop-line.invariant
