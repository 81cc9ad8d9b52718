use Rattle.std.proofs.Common.{◌+◌, ◌||◌, map, drop, sym, ap, ◌∙◌}
use Rattle.fy_types.specs.Paths.{end}
use Rattle.fy_types.specs.Reading.{plain_path, paths_from}
use Rattle.fy_types.proofs.Steps.{drop_item, drop_end}
use Rattle.fy_derive.specs.Subsumption.{some_below}
use Rattle.fy_order.proofs.demands.has.Goals as goal

pub returns-then-ends_in : goal.returns-then-ends_in
returns-then-ends_in c =
    let items = c.as_slice-path-items.result.now in
    let rest = drop_item plain_path items c.loop-path.path-index c.path-item.result c.loop-path-test.true c.path-item.is in
    sym (sym c.loop-path.invariant ∙ (ap (λ ps. some_below (paths_from ps) (end c.args.atom)) rest
    ∙ ap (λ b. b || some_below (paths_from (map plain_path (drop (c.loop-path.path-index + 1) items))) (end c.args.atom))
    (sym c.ends_in.ensures ∙ c.if-ends_in.true)))

pub loop-path-preserved : goal.loop-path-preserved
loop-path-preserved c =
    let items = c.as_slice-path-items.result.now in
    let rest = drop_item plain_path items c.loop-path.path-index c.path-item.result c.loop-path-test.true c.path-item.is in
    sym (sym c.loop-path.invariant ∙ (ap (λ ps. some_below (paths_from ps) (end c.args.atom)) rest
    ∙ ap (λ b. b || some_below (paths_from (map plain_path (drop (c.loop-path.path-index + 1) items))) (end c.args.atom))
    (sym c.ends_in.ensures ∙ c.if-ends_in.false)))

pub returns : goal.returns
returns c =
    sym (sym c.loop-path.invariant ∙ ap (λ ps. some_below (paths_from ps) (end c.args.atom))
    (drop_end plain_path c.as_slice-path-items.result.now c.loop-path.path-index c.loop-path-test.false))
