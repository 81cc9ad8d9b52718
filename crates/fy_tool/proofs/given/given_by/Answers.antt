use Rattle.std.proofs.Common.{refl}
use Rattle.fy_tool.proofs.Derived.{given_in_use, given_passing, given_unread, given_wrong}
use Rattle.fy_tool.proofs.given.given_by.Goals as goal

pub returns-in-Ok-Err-clause-given : goal.returns-in-Ok-Err-clause-given
returns-in-Ok-Err-clause-given c =
    let read = rw c.in-Ok-Err.field-0-is at c.in-Ok-Err.ensures.read in
    given_unread c.args.core c.args.written.now c.read_named.new.names c.in-Ok-Err.note c.requires.short read

pub returns-in-Ok-Some-clause-given : goal.returns-in-Ok-Some-clause-given
returns-in-Ok-Some-clause-given c =
    let read = rw c.in-Ok-Ok.field-0-is at c.in-Ok-Ok.ensures.read in
    let stop = rw c.in-Ok-Some.field-0-is at c.in-Ok-Some.ensures.node in
    given_wrong c.args.core c.args.written.now c.read_named.new.names c.in-Ok-Ok.derivation c.in-Ok-Some.node c.requires.short read stop

pub returns-in-Ok-Ok-table_of-clause-given : goal.returns-in-Ok-Ok-table_of-clause-given
returns-in-Ok-Ok-table_of-clause-given c =
    let read = rw c.in-Ok-Ok.field-0-is at c.in-Ok-Ok.ensures.read in
    let accepted = rw c.in-Ok-None.field-0-is at c.in-Ok-None.ensures.node in
    let tabled = rw c.in-Ok-Ok-table_of.field-0-is at c.in-Ok-Ok-table_of.ensures.table in
    given_in_use c.args.core c.args.written.now c.read_named.new.names
    (record { phrase = c.args.core.phrase; derivation = c.in-Ok-Ok.derivation; table = c.in-Ok-Ok-table_of.table; names = c.read_named.new.names }) c.requires.short read refl accepted tabled

pub returns-in-Ok-Err-table_of-clause-given : goal.returns-in-Ok-Err-table_of-clause-given
returns-in-Ok-Err-table_of-clause-given c =
    let read = rw c.in-Ok-Ok.field-0-is at c.in-Ok-Ok.ensures.read in
    let accepted = rw c.in-Ok-None.field-0-is at c.in-Ok-None.ensures.node in
    let passed = rw c.in-Ok-Err-table_of.field-0-is at c.in-Ok-Err-table_of.ensures.table in
    given_passing c.args.core c.args.written.now c.read_named.new.names c.in-Ok-Ok.derivation c.in-Ok-Err-table_of.why c.requires.short read accepted passed
