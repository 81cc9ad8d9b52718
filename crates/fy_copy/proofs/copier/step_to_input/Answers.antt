use Rattle.fy_copy.proofs.Forms.{going_not_over}
use Rattle.fy_copy.proofs.copier.step_to_input.Goals as goal

pub invariant_of-state-then-branch : goal.invariant_of-state-then-branch
invariant_of-state-then-branch c = record {
  kept = λ _. c.ask.ensures.kept c.args.state.now.steps (c.args.state.now.kept (going_not_over c.args.state.now.phase c.requires.going));
  room = λ _. c.in_ok-ask.ensures.room;
  few = λ _. c.requires.few;
}
