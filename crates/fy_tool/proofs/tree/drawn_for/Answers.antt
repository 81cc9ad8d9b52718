use Rattle.std.proofs.lemmas.Result.{IfOk-weaker}
use Rattle.fy_phrase.specs.Reads.{reads}
use Rattle.fy_derive.specs.Reading.{plain_derivation}
use Rattle.fy_tool.proofs.Drawing.{drawn_in_use, drawn_passing}
use Rattle.fy_tool.proofs.tree.drawn_for.Goals as goal

pub returns-in-Ok-Ok-clause-drawn : goal.returns-in-Ok-Ok-clause-drawn
returns-in-Ok-Ok-clause-drawn c =
    let tabled = rw c.in-Ok-Ok.field-0-is at c.in-Ok-Ok.ensures.table in
    IfOk-weaker c.drawn_under.result _ _
    (λ found under. drawn_in_use c.args.text.now c.args.names.now c.args.drawing (reads c.args.phrase.now) (plain_derivation c.args.derivation.now) _ found c.requires.accepted c.requires.limits tabled under)
    c.drawn_under.ensures.drawn

pub returns-in-Ok-Err-clause-drawn : goal.returns-in-Ok-Err-clause-drawn
returns-in-Ok-Err-clause-drawn c =
    let passed = rw c.in-Ok-Err.field-0-is at c.in-Ok-Err.ensures.table in
    drawn_passing c.args.text.now c.args.names.now c.args.drawing (reads c.args.phrase.now) (plain_derivation c.args.derivation.now) c.in-Ok-Err.why c.requires.accepted passed
