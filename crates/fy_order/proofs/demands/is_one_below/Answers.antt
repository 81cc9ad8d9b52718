use Rattle.std.proofs.Common.{◌+◌, ◌||◌, map, drop, sym, ap, ◌∙◌}
use Rattle.fy_forms.specs.Keys.{lent}
use Rattle.fy_types.specs.Reading.{plain_path, paths_from}
use Rattle.fy_types.proofs.Steps.{drop_item, drop_end}
use Rattle.fy_derive.specs.Subsumption.{some_below, some_passes}
use Rattle.fy_order.proofs.DemandLemmas.{some-test}
use Rattle.fy_order.proofs.demands.is_one_below.Goals as goal

pub returns-then-branch : goal.returns-then-branch
returns-then-branch c =
    let items = c.as_slice-above-items.result.now in
    let test = some_below (lent c.args.list.now) in
    let is = some-test c.in_ok-is_some_below.field-0 (lent c.args.list.now) (plain_path c.above-item.result) c.in_ok-is_some_below.ensures in
    let rest = drop_item plain_path items c.loop-above.above-index c.above-item.result c.loop-above-test.true c.above-item.is in
    sym (sym c.loop-above.invariant ∙ (ap (λ ps. some_passes test (paths_from ps)) rest
    ∙ ap (λ b. b || some_passes test (paths_from (map plain_path (drop (c.loop-above.above-index + 1) items))))
    (sym is ∙ c.if-branch.true)))

pub loop-above-preserved : goal.loop-above-preserved
loop-above-preserved c =
    let items = c.as_slice-above-items.result.now in
    let test = some_below (lent c.args.list.now) in
    let is = some-test c.in_ok-is_some_below.field-0 (lent c.args.list.now) (plain_path c.above-item.result) c.in_ok-is_some_below.ensures in
    let rest = drop_item plain_path items c.loop-above.above-index c.above-item.result c.loop-above-test.true c.above-item.is in
    sym (sym c.loop-above.invariant ∙ (ap (λ ps. some_passes test (paths_from ps)) rest
    ∙ ap (λ b. b || some_passes test (paths_from (map plain_path (drop (c.loop-above.above-index + 1) items))))
    (sym is ∙ c.if-branch.false)))

pub returns : goal.returns
returns c =
    sym (sym c.loop-above.invariant ∙ ap (λ ps. some_passes (some_below (lent c.args.list.now)) (paths_from ps))
    (drop_end plain_path c.as_slice-above-items.result.now c.loop-above.above-index c.loop-above-test.false))
