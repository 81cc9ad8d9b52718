use Rattle.std.proofs.Common.{◌≡◌, map, take}
use Rattle.fy_order.specs.Levels.{own_sign, plain_tagged}
use Rattle.fy_order.proofs.levels.signs_of.Given as goal

abbrev pub invariant-loop-tagged : goal.invariant-loop-tagged
invariant-loop-tagged l = l.signs.items ≡ map own_sign (map plain_tagged (take l.tagged-index l.nodes))
