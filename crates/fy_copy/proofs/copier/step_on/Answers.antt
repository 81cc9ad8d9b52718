use Rattle.std.proofs.Common.{subst, arith}
use Rattle.fy_phrase.specs.Copy.{copy_step}
use Rattle.fy_copy.specs.Moves.{Moved}
use Rattle.fy_copy.specs.Shown.{state_of}
use Rattle.fy_copy.specs.declared.progress.Turn.{Turn}
use Rattle.fy_copy.proofs.Forms.{going_not_over, going_not_waiting}
use Rattle.fy_copy.proofs.Keeping.{kept_low, kept_goes, kept_puts}
use Rattle.fy_copy.proofs.copier.step_on.Goals as goal

pub advance-requires-clause-low : goal.advance-requires-clause-low
advance-requires-clause-low c = kept_low c.args.state.now.steps _ (omega arith) (c.args.state.now.kept (going_not_over c.args.state.now.phase c.requires.going))

pub invariant_of-state-then-is_held : goal.invariant_of-state-then-is_held
invariant_of-state-then-is_held c =
    let going = c.requires.going in
    let P : Turn → Type 0 = λ turn. Moved turn (copy_step (state_of c.args.state.now.core)) (state_of c.advance.new.core) in
    record {
      kept = λ _. kept_goes c.args.state.now.steps _ _ (c.args.state.now.kept (going_not_over c.args.state.now.phase going)) (subst P c.in-Going.is c.in_ok-advance.ensures.ok);
      room = λ waits. absurd (going_not_waiting c.args.state.now.phase going waits);
      few = λ waits. absurd (going_not_waiting c.args.state.now.phase going waits);
    }

pub invariant_of-state-then-is_held-2 : goal.invariant_of-state-then-is_held-2
invariant_of-state-then-is_held-2 c =
    let going = c.requires.going in
    let P : Turn → Type 0 = λ turn. Moved turn (copy_step (state_of c.args.state.now.core)) (state_of c.advance.new.core) in
    record {
      kept = λ _. kept_puts c.args.state.now.steps _ _ c.in-Put.text (c.args.state.now.kept (going_not_over c.args.state.now.phase going)) (subst P c.in-Put.is c.in_ok-advance.ensures.ok);
      room = λ waits. absurd (going_not_waiting c.args.state.now.phase going waits);
      few = λ waits. absurd (going_not_waiting c.args.state.now.phase going waits);
    }
