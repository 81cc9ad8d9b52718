use Rattle.std.proofs.Common.{subst}
use Rattle.pe_machine.specs.Names.{IsPlacedAct}
use Rattle.pe_machine.specs.Turns.{frames_of}
use Rattle.pe_machine.proofs.acts.plan_of.Goals as goal

pub returns-in-Some-variable-clause-placed : goal.returns-in-Some-variable-clause-placed
returns-in-Some-variable-clause-placed c = let frames = frames_of c.args.core.now in c.stay-in-Some-variable.ensures.placed (c.push.ensures.placed frames c.in-Some-variable.ensures.placed (subst (IsPlacedAct frames) c.in-Pass.is c.requires))
