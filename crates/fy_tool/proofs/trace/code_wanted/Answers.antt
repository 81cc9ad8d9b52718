use Rattle.fy_phrase.specs.Reads.{reads}
use Rattle.fy_derive.specs.Reading.{plain_derivation}
use Rattle.fy_tool.proofs.ImageCommands.{program_phrase}
use Rattle.fy_tool.proofs.trace.code_wanted.Goals as goal

pub straight_code_of-requires-clause-phrase : goal.straight_code_of-requires-clause-phrase
straight_code_of-requires-clause-phrase c = program_phrase c.requires.0 (reads c.args.program.now.phrase) c.requires.1.is_program.is_judged

pub straight_code_of-requires-clause-table : goal.straight_code_of-requires-clause-table
straight_code_of-requires-clause-table c =
    let is = c.requires.1 in
    record { derivation = plain_derivation c.args.program.now.derivation; accepted = is.derived; pairs = is.table_is }

pub straight_code_of-requires-clause-limits : goal.straight_code_of-requires-clause-limits
straight_code_of-requires-clause-limits c = c.requires.1.table_limits

pub code_of-requires-clause-phrase : goal.code_of-requires-clause-phrase
code_of-requires-clause-phrase c = program_phrase c.requires.0 (reads c.args.program.now.phrase) c.requires.1.is_program.is_judged

pub code_of-requires-clause-table : goal.code_of-requires-clause-table
code_of-requires-clause-table c =
    let is = c.requires.1 in
    record { derivation = plain_derivation c.args.program.now.derivation; accepted = is.derived; pairs = is.table_is }

pub code_of-requires-clause-limits : goal.code_of-requires-clause-limits
code_of-requires-clause-limits c = c.requires.1.table_limits
