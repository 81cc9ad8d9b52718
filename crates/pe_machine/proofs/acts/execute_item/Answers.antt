use Rattle.std.proofs.Common.{List, sym, ap, ◌∙◌}
use Rattle.pe_code.specs.declared.code.PeInsn.{PeInsn}
use Rattle.pe_code.specs.declared.code.StraightPart.{StraightPart}
use Rattle.pe_machine.specs.States.{PeContext}
use Rattle.pe_machine.specs.Step.{datum_meets, executed, straight_run, waiting}
use Rattle.pe_machine.specs.Shown.{number_of, pointer_of}
use Rattle.pe_machine.specs.Turns.{frames_of, state_of}
use Rattle.pe_machine.proofs.acts.execute_item.Goals as goal

pub plan_of-requires : goal.plan_of-requires
plan_of-requires c = c.act_of.ensures.placed (frames_of c.args.core.now) c.requires

pub meet-requires-clause-context : goal.meet-requires-clause-context
meet-requires-clause-context c = c.waiting_for-context.ensures.placed (frames_of c.args.core.now) c.requires

pub returns-in-EvalFor-clause-moves : goal.returns-in-EvalFor-clause-moves
returns-in-EvalFor-clause-moves c =
    let s = state_of c.args.core.now in
    let code = c.args.code.now in
    let item = c.args.item.now in
    let r = number_of c.args.here.frame in
    c.meet.ensures.moves
    ∙ (ap (λ (x : PeContext). straight_run code c.as_slice-in-EvalFor.result.now r s (λ v. datum_meets code v x s)) c.waiting_for-context.ensures.is
    ∙ (ap (λ (ss : List StraightPart). straight_run code ss r s (λ v. datum_meets code v (waiting c.in-EvalFor.purpose (pointer_of c.args.here)) s)) c.as_slice-in-EvalFor.ensures
    ∙ sym (ap (λ (i : PeInsn). executed code i item.depth item.place (pointer_of c.args.here) s) c.in-EvalFor.is)))
