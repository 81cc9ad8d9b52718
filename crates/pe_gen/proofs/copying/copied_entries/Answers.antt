use Rattle.std.proofs.Common.{get_or, ap, ◌∙◌}
use Rattle.pe_code.specs.declared.code.Entry.{Entry}
use Rattle.pe_code.specs.Entries.{with_entry}
use Rattle.pe_gen.proofs.CopyLemmas.{one-more}
use Rattle.pe_gen.proofs.copying.copied_entries.Goals as goal

pub loop-entry-preserved : goal.loop-entry-preserved
loop-entry-preserved c =
    let i = c.loop-entry.entry-index in
    let none : Entry = record { node = 0; shape = 0; address = 0 } in
    let entry = get_or c.args.entries.now i none in
    c.in_ok-push.ensures.ok
    ∙ (ap (with_entry entry) c.loop-entry.invariant
    ∙ one-more c.args.entries.now i none c.requires c.loop-entry-test.true)
