use Rattle.std.proofs.Common.{Some, inl, inr, ap, sym, ◌∙◌}
use Rattle.pe_gen.proofs.Gets.{some_same}
use Rattle.pe_gen.proofs.PlanLemmas.{asked-entry, rest-step, rest-number}
use Rattle.pe_gen.proofs.StepLemmas.{front-same}
use Rattle.fy_derive.specs.ShapeTables.{shape_at}
use Rattle.pe_gen.proofs.plan.Plan.entry_at_rest.Goals as goal

pub entry-requires : goal.entry-requires
entry-requires c =
    let plan = c.args.self.now in
    let a = c.requires.asked in
    let step = rest-step plan c.requires.plan c.args.number c.args.shape a.0 a.1 c.index.result.now a.2 a.3 c.index.ensures in
    let number = rest-number c.index.result.now _ _ _ _ step c.in-Before.is in
    asked-entry plan c.requires.plan c.args.number c.in-Before.rest a.1 (ap (shape_at plan.table.now) (sym number) ∙ a.3.shape_is) a.3

pub unreachable-requires : goal.unreachable-requires
unreachable-requires c =
    let plan = c.args.self.now in
    let a = c.requires.asked in
    let step = rest-step plan c.requires.plan c.args.number c.args.shape a.0 a.1 c.index.result.now a.2 a.3 c.index.ensures in
    elim c.in-End.is [
      | inl x ↦ let e = sym step ∙ x.1 in absurd cc
      | inr x ↦ let e = sym step ∙ x.1 in absurd cc
    ]

pub returns : goal.returns
returns c = λ e s is.
    let plan = c.args.self.now in
    let a = c.requires.asked in
    let step = rest-step plan c.requires.plan c.args.number c.args.shape a.0 a.1 c.index.result.now a.2 a.3 c.index.ensures in
    let number = rest-number c.index.result.now _ _ _ _ step c.in-Before.is in
    let same = (front-same a.0 e a.1 s (some_same (sym a.2 ∙ is))).1 in
    (c.in-Before.rest, ap (shape_at plan.table.now) (sym number) ∙ (a.3.shape_is ∙ ap Some same), c.entry.ensures)
