use Rattle.std.proofs.Common.{◌<◌, map, length, arith, rules}
use Rattle.std.proofs.lemmas.List.{length-map}
use Rattle.fy_order.specs.Levels.{next, plain_tagged}
use Rattle.fy_order.proofs.DepthLemmas.{depth_in, depth-some, next-less}
use Rattle.fy_order.proofs.levels.+levels_of.Goals as goal

pub levels_of-requires : goal.levels_of-requires
levels_of-requires t c =
    let T = map plain_tagged c.args.nodes.items in
    let S = map plain_tagged c.in_ok-made.made.next.items in
    let some : 0 < length T = omega (arith, length-map c.args.nodes.items plain_tagged, c.if-len-eq0.false, c.len.ensures, c.args.nodes.ok.0) in
    let less : depth_in S < depth_in T = omega (arith, depth-some S (next T) c.in_ok-made.ensures.next, next-less T some) in
    search rules
