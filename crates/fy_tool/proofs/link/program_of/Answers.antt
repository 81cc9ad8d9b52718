use Rattle.std.proofs.Common.{refl}
use Rattle.fy_phrase.specs.Reads.{reads}
use Rattle.fy_tool.proofs.Linking.{program_linked}
use Rattle.fy_front.proofs.Nodes.{judged-nodes}
use Rattle.fy_tool.proofs.link.program_of.Goals as goal

pub table_of-requires-clause-nodes : goal.table_of-requires-clause-nodes
table_of-requires-clause-nodes c =
    let linked = c.args.together.linked in
    judged-nodes linked.text (reads linked.phrase) c.requires.2.phrase

pub returns-in-Ok-Ok-clause-program : goal.returns-in-Ok-Ok-clause-program
returns-in-Ok-Ok-clause-program c =
    let together = c.args.together in
    let tabled = rw c.in-Ok-Ok.field-0-is at c.in-Ok-Ok.ensures.table in
    program_linked together (record { phrase = together.linked.phrase; derivation = together.linked.derivation; table = c.in-Ok-Ok.table; names = together.names }) c.requires refl refl tabled
