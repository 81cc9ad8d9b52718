use Rattle.std.proofs.Common.{[]}
use Rattle.fy_words.specs.Order.{unelf}
use Rattle.fy_world.proofs.Counting.{called_fetch, called_same, counted_keeps}
use Rattle.fy_tool.specs.Due.{keeps_of}
use Rattle.fy_tool.proofs.Serving.{after, fetched_file, only, serves_unread, tells}
use Rattle.fy_tool.proofs.ElfCommands.{serves_no_elf, serves_unelf}
use Rattle.fy_tool.proofs.elf.unelf_file.Goals as goal

pub returns-in-Err-clause-serves : goal.returns-in-Err-clause-serves
returns-in-Err-clause-serves g c = serves_unread (unelf c.args.from.now c.args.to.now) _ _ _ _ _ _ c.in-Err.stop c.in-Err.ensures.holds c.in-Err.ensures.counted c.in-Err.ensures.input (called_fetch _ _ c.in-Err.ensures.called)

pub returns-in-Ok-Err-clause-serves : goal.returns-in-Ok-Err-clause-serves
returns-in-Ok-Err-clause-serves g c =
    let h = rw c.in-Ok-Err.field-0-is at c.in-Ok-Err.ensures.read in
    let order = unelf c.args.from.now c.args.to.now in
    serves_no_elf c.args.from.now c.args.to.now h.0 h.2.0 c.in-Ok-Err.why _ _ _ _ _ _ _ _ _ _ h.2.1 h.2.2
    (after order (only h.0) _ _ _ _ _ _ _ _ _ _ (tells order _ _ _ h.1 tt) c.in-Ok-Err.ensures.holds c.in-Ok-Err.ensures.counted (fetched_file order (only h.0) _ _ (called_fetch _ _ c.in-Ok-Err.ensures.called)) c.refuse.ensures.own (counted_keeps [] (keeps_of order) _ _ c.refuse.result c.refuse.ensures.counted) (called_same 0 _ _ _ c.refuse.ensures.called))
    c.refuse.ensures.memory c.refuse.ensures.did c.refuse.ensures.called

pub returns-in-Ok-Ok-clause-serves : goal.returns-in-Ok-Ok-clause-serves
returns-in-Ok-Ok-clause-serves g c =
    let h = rw c.in-Ok-Ok.field-0-is at c.in-Ok-Ok.ensures.read in
    let order = unelf c.args.from.now c.args.to.now in
    serves_unelf c.args.from.now c.args.to.now h.0 c.in-Ok-Ok.image _ _ _ _ _ _ _ _ _ _ h.2.0 h.2.1
    (after order (only h.0) _ _ _ _ _ _ _ _ _ _ (tells order _ _ _ h.1 tt) c.in-Ok-Ok.ensures.holds c.in-Ok-Ok.ensures.counted (fetched_file order (only h.0) _ _ (called_fetch _ _ c.in-Ok-Ok.ensures.called)) c.keep_image.ensures.own c.keep_image.ensures.counted c.keep_image.ensures.called) c.keep_image.ensures.keeps
