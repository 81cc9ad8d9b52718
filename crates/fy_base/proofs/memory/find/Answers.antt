use Rattle.std.proofs.Common.{◌∙◌, sym, ap, Some}
use Rattle.std.proofs.lemmas.Slice.Eq.{bytes_eq-Decides}
use Rattle.fy_base.proofs.Folders.{found_here, found_later, found_none}
use Rattle.fy_base.proofs.memory.find.Goals as goal

pub returns-then-eq : goal.returns-then-eq
returns-then-eq c =
    let same = (bytes_eq-Decides c.as_str.result.now c.args.name.now).0 (sym c.eq.ensures ∙ c.if-eq.true) in
    sym c.loop-entry.invariant
    ∙ found_here c.args.entries.now c.loop-entry.entry-index c.entry-item.result c.args.name.now c.loop-entry-test.true c.entry-item.is (sym c.as_str.ensures.value ∙ same)
    ∙ sym (ap (λ b. Some b) c.as_slice.ensures.value)

pub loop-entry-preserved : goal.loop-entry-preserved
loop-entry-preserved c =
    found_later c.args.entries.now c.loop-entry.entry-index c.entry-item.result c.args.name.now c.loop-entry-test.true c.entry-item.is
    (λ s. let t = (bytes_eq-Decides c.as_str.result.now c.args.name.now).1 (c.as_str.ensures.value ∙ s) in cc (c.eq.ensures, t, c.if-eq.false))
    ∙ c.loop-entry.invariant

pub returns : goal.returns
returns c = sym c.loop-entry.invariant ∙ found_none c.args.entries.now c.loop-entry.entry-index c.args.name.now c.loop-entry-test.false
