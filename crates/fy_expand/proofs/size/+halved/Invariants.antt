use Rattle.std.proofs.Common.{length}
use Rattle.fy_expand.proofs.size.+halved.Given as goal

abbrev pub decreases-halved : goal.decreases-halved
decreases-halved l = length l.sizes.now
