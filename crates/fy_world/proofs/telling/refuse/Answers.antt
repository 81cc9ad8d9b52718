use Rattle.std.proofs.Common.{[], ◌∷◌}
use Rattle.fy_world.proofs.Parts.{told_part}
use Rattle.fy_world.proofs.telling.refuse.Goals as goal

pub returns-in-Err-clause-did : goal.returns-in-Err-clause-did
returns-in-Err-clause-did g c = told_part _ (c.args.why ∷ []) _ (g.W.World.holds c.tell.new.world) c.in-Err.stop (λ none. cc) c.in-Err.ensures.rest c.in-Err.ensures.part c.in-Err.ensures.stop
