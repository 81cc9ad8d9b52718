use Rattle.std.proofs.Common.{refl, arith}
use Rattle.pe_machine.proofs.FillingLemmas.{going_not_waiting}
use Rattle.pe_machine.proofs.machine.PeState.complete.Goals as goal

pub invariant_of-self-2 : goal.invariant_of-self-2
invariant_of-self-2 c = record {
  numbers = omega (arith, c.enter_body.ensures.next, c.push_context.ensures.next, c.args.self.now.numbers);
  room = λ waits. going_not_waiting c.args.self.now.phase c.requires.phase waits;
  few = λ waits. going_not_waiting c.args.self.now.phase c.requires.phase waits;
  still = λ waits. refl;
  filling_placed = tt;
  filling_within = tt;
}
