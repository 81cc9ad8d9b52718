use Rattle.std.proofs.Common.{subst, false, arith}
use Rattle.std.proofs.lemmas.Result.{IfOk-weaker}
use Rattle.fy_order.specs.Levels.{IsAt}
use Rattle.fy_order.proofs.LevelLemmas.{at-few}
use Rattle.fy_order.proofs.SearchLemmas.{first-below, is_indexed-first, nodes-first}
use Rattle.fy_order.proofs.relation.all_below.Goals as goal

pub returns-then-place-len : goal.returns-then-place-len
returns-then-place-len c u at k t at_t low =
    let high = c.high-item.result in
    let here = subst (λ xs. IsAt xs c.args.place u) (nodes-first c.args.b.now high c.high-item.is c.in-len1-up-b.len_at_least) at in
    absurd (omega (arith, at-few high.nodes.items c.args.place u here, c.if-place-len.true, c.len.ensures, high.nodes.ok))

pub found_below-requires : goal.found_below-requires
found_below-requires c = is_indexed-first false c.args.a.now c.low-item.result c.low-item.is c.in-len1-up.len_at_least c.requires.a

pub returns : goal.returns
returns c =
    IfOk-weaker c.found_below.result _ _
    (λ found has u at.
    first-below c.args.a.now c.args.b.now c.low-item.result c.high-item.result c.args.covers.now c.args.place c.index.result.now u found.items
    c.low-item.is c.in-len1-up.len_at_least c.high-item.is c.in-len1-up-b.len_at_least c.requires.a c.requires.b c.requires.covers c.index.ensures at
    (λ k t few is low are. has k t few is low (rw (c.list_at-domains.ensures, c.as_slice.ensures.value) are))) c.found_below.ensures
