use Rattle.std.proofs.Common.{◌≡◌, ◌+◌, ◌-◌, ◌<◌, length, ap, arith}
use Rattle.fy_phrase.specs.Sizes.{all_nodes}
use Rattle.pe_gen.proofs.PartSizes.{part-size, nodes_from, nodes_from-at, nodes_from-few}
use Rattle.pe_gen.proofs.listing.+listing.Goals as goal

pub add_nodes_of_all-add_nodes-requires : goal.add_nodes_of_all-add_nodes-requires
add_nodes_of_all-add_nodes-requires t c =
    let items = c.as_slice-items.result.now in
    let here : c.loop-i.i - 1 < length items = omega (arith, c.loop-i.invariant.within, c.loop-i-test.true) in
    let deep = part-size c.args.parts.now (c.loop-i.i - 1) c.index-items-i.result
    (rw c.as_slice-items.ensures.members at here) (rw c.as_slice-items.ensures.members at c.index-items-i.is) in
    let at = nodes_from-at items (c.loop-i.i - 1) c.index-items-i.result here c.index-items-i.is in
    let few = nodes_from-few items (c.loop-i.i - 1) in (
      omega (arith, deep, c.decreases),
      omega (arith, at, few, ap all_nodes c.as_slice-items.ensures.reading, c.requires),
    )

pub add_nodes_of_all-overflow_add-size : goal.add_nodes_of_all-overflow_add-size
add_nodes_of_all-overflow_add-size t c =
    let items = c.as_slice-items.result.now in
    let here : c.loop-i.i - 1 < length items = omega (arith, c.loop-i.invariant.within, c.loop-i-test.true) in
    let next : c.loop-i.i - 1 + 1 ≡ c.loop-i.i = omega (arith, c.loop-i-test.true) in
    let at = nodes_from-at items (c.loop-i.i - 1) c.index-items-i.result here c.index-items-i.is in
    let few = nodes_from-few items (c.loop-i.i - 1) in
    omega (arith, at, few, ap (λ i. nodes_from i items) next, ap all_nodes c.as_slice-items.ensures.reading, c.requires, c.loop-i.invariant.size, c.in_ok-size.ensures.number)
