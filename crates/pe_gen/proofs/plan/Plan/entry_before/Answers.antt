use Rattle.std.proofs.Common.{[], ◌∷◌}
use Rattle.fy_derive.specs.ShapeTables.{behind}
use Rattle.pe_gen.proofs.PlanLemmas.{asked-entry, before-stands, before-number}
use Rattle.pe_gen.proofs.plan.Plan.entry_before.Goals as goal

pub number_of-requires-clause-there : goal.number_of-requires-clause-there
number_of-requires-clause-there c =
    let a = c.requires.asked in
    before-stands c.args.self.now c.requires.plan c.args.number c.args.shape c.args.first a.0 a.1 a.2

pub entry-requires : goal.entry-requires
entry-requires c =
    let plan = c.args.self.now in
    let a = c.requires.asked in
    asked-entry plan c.requires.plan c.args.number c.number_of.result (behind (c.args.first ∷ []) a.0)
    (before-number plan c.requires.plan c.number_of.result c.args.shape c.args.first a.0 c.number_of.ensures a.1) a.2

pub returns : goal.returns
returns c = λ s is.
    (c.number_of.result, before-number c.args.self.now c.requires.plan c.number_of.result c.args.shape c.args.first s c.number_of.ensures is, c.entry.ensures)
