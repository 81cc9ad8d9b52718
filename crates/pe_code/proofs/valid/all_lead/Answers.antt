use Rattle.std.proofs.Common.{refl, subst}
use Rattle.std.specs.List.{All}
use Rattle.std.proofs.lemmas.List.{take_all}
use Rattle.std.proofs.lemmas.List.Elements.{All-more}
use Rattle.pe_code.specs.Valid.{LeadsTo}
use Rattle.pe_code.proofs.valid.all_lead.Goals as goal

pub loop-address-preserved : goal.loop-address-preserved
loop-address-preserved c = All-more (LeadsTo c.args.code.now c.args.depth) c.args.addresses.now c.loop-address.address-index 0 c.loop-address-test.true c.loop-address.invariant (c.leads_to.ensures.0 c.if-not-leads_to.false)

pub returns-then-not-leads_to : goal.returns-then-not-leads_to
returns-then-not-leads_to c = (λ t. absurd (cc), λ h. let yes = c.leads_to.ensures.1 (h c.loop-address.address-index 0 c.loop-address-test.true) in absurd (cc))

pub returns : goal.returns
returns c = (
  λ t. subst (All (LeadsTo c.args.code.now c.args.depth)) (take_all c.loop-address.address-index c.args.addresses.now c.loop-address-test.false) c.loop-address.invariant,
  λ h. refl,
)
