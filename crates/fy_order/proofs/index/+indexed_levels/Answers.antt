use Rattle.std.proofs.Common.{◌<◌, ◌≡◌, ◌∙◌, ap, sym, subst, map, length, arith, rules}
use Rattle.std.proofs.lemmas.List.{length-map}
use Rattle.fy_order.specs.Levels.{AreWithin, IsLevel, indexed_nodes, next, plain_tagged}
use Rattle.fy_order.proofs.DepthLemmas.{depth_in, depth-some, next-less}
use Rattle.fy_order.proofs.LevelLemmas.{inner-within}
use Rattle.fy_order.proofs.index.+indexed_levels.Goals as goal

pub indexed_levels-requires : goal.indexed_levels-requires
indexed_levels-requires t c =
    let T = map plain_tagged c.args.nodes.items in
    let U = map plain_tagged c.in_ok-made.made.next.items in
    let some : 0 < length T = omega (arith, length-map c.args.nodes.items plain_tagged, c.if-len-eq0.false, c.len.ensures, c.args.nodes.ok.0) in
    let less : depth_in U < depth_in T = omega (arith, depth-some U (next T) c.in_ok-made.ensures.next, next-less T some) in
    search rules

pub index_of-requires : goal.index_of-requires
index_of-requires t c =
    let level = c.in_ok-made.made.level in
    let nodes = c.in_ok-made.made.next in
    let U = map plain_tagged nodes.items in
    let many : length U ≡ c.len-2.result = omega (arith, length-map nodes.items plain_tagged, c.len-2.ensures, nodes.ok.0) in
    subst (λ n. AreWithin n level.inner.items) many (inner-within U level.inner.items (map plain_tagged level.nodes.items) c.in_ok-made.ensures.level.inner)

pub returns : goal.returns
returns t c =
    let made = c.in_ok-made.ensures in
    let rest = c.in_ok-levels.ensures in
    let items = c.in_ok-insert.ensures.items in
    record {
      nodes = ap indexed_nodes items ∙ ap (map plain_tagged) made.nodes;
      indexed = rw items (subst (IsLevel c.in_ok-made.made.level) (sym rest.nodes) made.level, (c.in_ok-index.ensures, rest.indexed));
    }
