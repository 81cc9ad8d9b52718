use Rattle.std.proofs.lemmas.Result.{IfOk-weaker}
use Rattle.fy_front.proofs.Nodes.{judged-nodes}
use Rattle.fy_phrase.specs.Reads.{reads}
use Rattle.fy_tool.proofs.Judging.{judged_for, judged_no_text, judged_under}
use Rattle.fy_tool.proofs.judge.judgement_of.Goals as goal

pub read_named-requires-clause-few : goal.read_named-requires-clause-few
read_named-requires-clause-few c = c.requires.core.few_names

pub returns-in-Ok-Err-clause-judged : goal.returns-in-Ok-Err-clause-judged
returns-in-Ok-Err-clause-judged c =
    let read = rw c.in-Ok-Err.field-0-is at c.in-Ok-Err.ensures.read in
    judged_no_text c.args.text.now c.args.written.now c.args.core c.read_named.new.names c.in-Ok-Err.note c.requires.short c.requires.core read

pub accepted_for-requires-clause-nodes : goal.accepted_for-requires-clause-nodes
accepted_for-requires-clause-nodes c = judged-nodes c.args.text.now (reads c.args.core.phrase) c.requires.core.is_judged

pub returns-in-Ok-None-clause-judged : goal.returns-in-Ok-None-clause-judged
returns-in-Ok-None-clause-judged c =
    let read = rw c.in-Ok-Ok.field-0-is at c.in-Ok-Ok.ensures.read in
    IfOk-weaker c.accepted_for.result _ _
    (λ found h. judged_for c.args.text.now c.args.written.now c.args.core c.read_named.new.names c.in-Ok-Ok.derivation found c.requires.short c.requires.core read h)
    c.accepted_for.ensures.judged

pub returns-in-Ok-Some-clause-judged : goal.returns-in-Ok-Some-clause-judged
returns-in-Ok-Some-clause-judged c =
    let read = rw c.in-Ok-Ok.field-0-is at c.in-Ok-Ok.ensures.read in
    IfOk-weaker c.stopped_at.result _ _
    (λ found h. judged_under c.args.text.now c.args.written.now c.args.core c.read_named.new.names c.in-Ok-Ok.derivation found c.requires.short c.requires.core read h)
    c.stopped_at.ensures.judged
