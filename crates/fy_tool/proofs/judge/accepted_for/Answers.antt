use Rattle.fy_phrase.specs.Reads.{reads}
use Rattle.fy_derive.specs.Reading.{plain_derivation}
use Rattle.fy_tool.proofs.Judging.{judged_in_use, judged_passing}
use Rattle.fy_tool.proofs.judge.accepted_for.Goals as goal

pub returns-in-Ok-Ok-clause-judged : goal.returns-in-Ok-Ok-clause-judged
returns-in-Ok-Ok-clause-judged c =
    let tabled = rw c.in-Ok-Ok.field-0-is at c.in-Ok-Ok.ensures.table in
    judged_in_use (reads c.args.phrase.now) (plain_derivation c.args.derivation.now) _ c.requires.accepted c.requires.limits tabled

pub returns-in-Ok-Err-clause-judged : goal.returns-in-Ok-Err-clause-judged
returns-in-Ok-Err-clause-judged c =
    let passed = rw c.in-Ok-Err.field-0-is at c.in-Ok-Err.ensures.table in
    judged_passing (reads c.args.phrase.now) (plain_derivation c.args.derivation.now) c.in-Ok-Err.why c.requires.accepted passed
