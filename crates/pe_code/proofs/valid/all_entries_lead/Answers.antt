use Rattle.std.proofs.Common.{refl, subst}
use Rattle.std.specs.List.{All}
use Rattle.std.proofs.lemmas.List.{take_all}
use Rattle.std.proofs.lemmas.List.Elements.{All-more}
use Rattle.pe_code.specs.declared.code.Entry.{Entry}
use Rattle.pe_code.specs.Valid.{LeadsTo}
use Rattle.pe_code.proofs.valid.all_entries_lead.Goals as goal

abbrev no_entry : Entry
no_entry = record { node = 0; shape = 0; address = 0 }

pub loop-entry-preserved : goal.loop-entry-preserved
loop-entry-preserved c =
    let P : Entry → Type 0 = λ e. LeadsTo c.args.code.now c.args.depth e.address in
    All-more P c.args.entries.now c.loop-entry.entry-index no_entry c.loop-entry-test.true c.loop-entry.invariant (c.leads_to.ensures.0 c.if-not-leads_to.false)

pub returns-then-not-leads_to : goal.returns-then-not-leads_to
returns-then-not-leads_to c = (λ t. absurd (cc), λ h. let yes = c.leads_to.ensures.1 (h c.loop-entry.entry-index no_entry c.loop-entry-test.true) in absurd (cc))

pub returns : goal.returns
returns c =
    let P : Entry → Type 0 = λ e. LeadsTo c.args.code.now c.args.depth e.address in
    (λ t. subst (All P) (take_all c.loop-entry.entry-index c.args.entries.now c.loop-entry-test.false) c.loop-entry.invariant, λ h. refl)
