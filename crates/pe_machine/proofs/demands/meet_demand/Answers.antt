use Rattle.std.proofs.Common.{subst}
use Rattle.pe_machine.specs.Names.{IsPlacedDemand}
use Rattle.pe_machine.specs.Turns.{frames_of}
use Rattle.pe_machine.proofs.demands.meet_demand.Goals as goal

pub returns-then-i-j-clause-placed : goal.returns-then-i-j-clause-placed
returns-then-i-j-clause-placed c = let frames = frames_of c.args.core.now in c.go_to.ensures.placed frames (subst (IsPlacedDemand frames) c.in-Selection-Pick.is-0 c.requires.demand)

pub returns-then-i-eq-LENGTH-clause-placed : goal.returns-then-i-eq-LENGTH-clause-placed
returns-then-i-eq-LENGTH-clause-placed c = c.give_value.ensures.placed (frames_of c.args.core.now)
