use Rattle.std.proofs.Common.{map}
use Rattle.fy_order.specs.Levels.{plain_tagged}
use Rattle.fy_order.proofs.DepthLemmas.{depth_in}
use Rattle.fy_order.proofs.index.+indexed_levels.Given as goal

abbrev pub decreases-indexed_levels : goal.decreases-indexed_levels
decreases-indexed_levels l = depth_in (map plain_tagged l.nodes.items)
