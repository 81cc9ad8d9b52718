use Rattle.std.proofs.lemmas.Result.{IfOk-weaker}
use Rattle.fy_front.proofs.Nodes.{judged-nodes}
use Rattle.fy_phrase.specs.Reads.{reads}
use Rattle.fy_tool.proofs.Drawing.{drawn_no_text, drawn_read, drawn_wrong}
use Rattle.fy_tool.proofs.tree.drawn_by.Goals as goal

pub read_named-requires-clause-few : goal.read_named-requires-clause-few
read_named-requires-clause-few c = c.requires.core.few_names

pub returns-in-Ok-Err-clause-drawn : goal.returns-in-Ok-Err-clause-drawn
returns-in-Ok-Err-clause-drawn c =
    let read = rw c.in-Ok-Err.field-0-is at c.in-Ok-Err.ensures.read in
    drawn_no_text c.args.text.now c.args.written.now c.args.core c.read_named.new.names c.args.drawing c.in-Ok-Err.note c.requires.short c.requires.core read

pub drawn_for-requires-clause-nodes : goal.drawn_for-requires-clause-nodes
drawn_for-requires-clause-nodes c = judged-nodes c.args.text.now (reads c.args.core.phrase) c.requires.core.is_judged

pub returns-in-Ok-None-clause-drawn : goal.returns-in-Ok-None-clause-drawn
returns-in-Ok-None-clause-drawn c =
    let read = rw c.in-Ok-Ok.field-0-is at c.in-Ok-Ok.ensures.read in
    IfOk-weaker c.drawn_for.result _ _
    (λ found under. drawn_read c.args.text.now c.args.written.now c.args.core c.read_named.new.names c.args.drawing c.in-Ok-Ok.derivation found c.requires.short c.requires.core read under)
    c.drawn_for.ensures.drawn

pub returns-in-Ok-Some-clause-drawn : goal.returns-in-Ok-Some-clause-drawn
returns-in-Ok-Some-clause-drawn c =
    let read = rw c.in-Ok-Ok.field-0-is at c.in-Ok-Ok.ensures.read in
    let stops = rw c.in-Ok-Some.field-0-is at c.in-Ok-Some.ensures.node in
    drawn_wrong c.args.text.now c.args.written.now c.args.core c.read_named.new.names c.args.drawing c.in-Ok-Ok.derivation c.in-Ok-Some.node c.requires.short c.requires.core read stops
