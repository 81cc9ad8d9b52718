use Rattle.std.proofs.Common.{◌≡◌, map, drop}
use Rattle.fy_types.specs.Paths.{end}
use Rattle.fy_types.specs.Reading.{plain_elem, fronted}
use Rattle.fy_order.specs.Levels.{plain_tagged, sign, sign_from}
use Rattle.fy_order.proofs.sign.sign.Given as goal

-- the number so far and what is left give the sign
abbrev pub invariant-loop-elem : goal.invariant-loop-elem
invariant-loop-elem l =
    sign_from l.number l.end (fronted (map plain_elem (drop l.elem-index l.elem-items)) (end l.tagged.path.now.end))
    ≡ sign (plain_tagged l.tagged) l.end
