use Rattle.std.proofs.Common.{map}
use Rattle.fy_order.specs.Levels.{plain_tagged}
use Rattle.fy_order.proofs.DepthLemmas.{depth_in}
use Rattle.fy_order.proofs.levels.+levels_of.Given as goal

abbrev pub decreases-levels_of : goal.decreases-levels_of
decreases-levels_of l = depth_in (map plain_tagged l.nodes.items)
