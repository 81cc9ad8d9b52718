use Rattle.fy_phrase.specs.Reads.{reads}
use Rattle.fy_derive.specs.Reading.{plain_derivation}
use Rattle.fy_tool.proofs.ImageCommands.{program_phrase}
use Rattle.fy_tool.proofs.build.image_for.Goals as goal

pub image_of-requires-clause-phrase : goal.image_of-requires-clause-phrase
image_of-requires-clause-phrase c = program_phrase c.requires.given.text (reads c.args.program.now.phrase) c.requires.given.is_judged

pub image_of-requires-clause-table : goal.image_of-requires-clause-table
image_of-requires-clause-table c =
    let is = c.requires.given in
    record { derivation = plain_derivation c.args.program.now.derivation; accepted = is.derived; pairs = is.table_is }

pub image_of-requires-clause-limits : goal.image_of-requires-clause-limits
image_of-requires-clause-limits c = c.requires.given.table_limits

pub returns-in-Ok-clause-image : goal.returns-in-Ok-clause-image
returns-in-Ok-clause-image c = record {
  runs = c.in-Ok.ensures.runs;
  stack_is = c.in-Ok.ensures.stack;
  table_is = c.in-Ok.ensures.table (plain_derivation c.args.program.now.derivation) c.requires.given.table_is;
  selected = c.in-Ok.ensures.selected;
  guarded = c.in-Ok.ensures.guarded;
}
