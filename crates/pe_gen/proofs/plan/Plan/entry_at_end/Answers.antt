use Rattle.fy_derive.specs.Shapes.{at_end}
use Rattle.fy_derive.specs.ShapeTables.{plain_end}
use Rattle.pe_gen.proofs.PlanLemmas.{asked-entry, end-stands, end-number}
use Rattle.pe_gen.proofs.plan.Plan.entry_at_end.Goals as goal

pub number_of-requires-clause-there : goal.number_of-requires-clause-there
number_of-requires-clause-there c = end-stands c.args.self.now c.requires.plan c.args.number c.args.end c.requires.asked

pub entry-requires : goal.entry-requires
entry-requires c =
    let plan = c.args.self.now in
    asked-entry plan c.requires.plan c.args.number c.number_of.result (at_end (plain_end c.args.end))
    (end-number plan c.requires.plan c.number_of.result c.args.end c.number_of.ensures) c.requires.asked

pub returns : goal.returns
returns c = (c.number_of.result, end-number c.args.self.now c.requires.plan c.number_of.result c.args.end c.number_of.ensures, c.entry.ensures)
