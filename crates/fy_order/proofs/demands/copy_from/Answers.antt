use Rattle.std.proofs.Common.{◌+◌, ◌++◌, map, drop, ap, ◌∙◌}
use Rattle.fy_types.specs.Reading.{plain_elem, elems_in}
use Rattle.fy_types.proofs.Steps.{drop_item}
use Rattle.fy_order.proofs.DemandLemmas.{copied-path, moved-one}
use Rattle.fy_order.proofs.demands.copy_from.Goals as goal

pub loop-i-preserved : goal.loop-i-preserved
loop-i-preserved c =
    let all = c.as_slice-all.result.now in
    ap (λ xs. map plain_elem xs ++ map plain_elem (drop (c.loop-i.i + 1) all)) c.in_ok-push.ensures.ok
    ∙ (moved-one (elems_in c.loop-i.elems) c.in_ok-copy_elem.field-0 (plain_elem c.index-all-i.result) (map plain_elem (drop c.loop-i.i all))
    (map plain_elem (drop (c.loop-i.i + 1) all)) c.in_ok-copy_elem.ensures
    (drop_item plain_elem all c.loop-i.i c.index-all-i.result c.loop-i-test.true c.index-all-i.is)
    ∙ c.loop-i.invariant)

pub returns : goal.returns
returns c =
    copied-path c.args.path.now c.as_slice-all.result.now c.loop-i.elems c.args.start c.loop-i.i
    c.as_slice-all.ensures.reading c.loop-i.invariant c.loop-i-test.false
