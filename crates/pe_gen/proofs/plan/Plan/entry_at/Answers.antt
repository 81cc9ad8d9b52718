use Rattle.pe_gen.proofs.PlanLemmas.{asked-entry}
use Rattle.pe_gen.proofs.plan.Plan.entry_at.Goals as goal

pub entry-requires : goal.entry-requires
entry-requires c = let a = c.requires.asked in asked-entry c.args.self.now c.requires.plan c.args.number c.args.shape a.0 a.1 a.2

pub returns : goal.returns
returns c = λ s is. (c.args.shape, is, c.entry.ensures)
