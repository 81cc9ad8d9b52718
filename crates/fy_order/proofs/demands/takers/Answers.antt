use Rattle.std.proofs.Common.{◌+◌, ◌++◌, map, drop, sym, ap, ◌∙◌}
use Rattle.std.proofs.lemmas.List.{append-nil}
use Rattle.fy_types.specs.Reading.{plain_path, plain_paths, paths_from}
use Rattle.fy_types.proofs.Steps.{drop_item, drop_end}
use Rattle.fy_order.specs.Demands.{takes}
use Rattle.fy_order.proofs.DemandLemmas.{flagged-one}
use Rattle.fy_order.proofs.demands.takers.Goals as goal

pub loop-path-preserved : goal.loop-path-preserved
loop-path-preserved c =
    let items = c.as_slice-path-items.result.now in
    let Q = plain_paths c.args.argument.now in
    let rest = takes Q (paths_from (map plain_path (drop (c.loop-path.path-index + 1) items))) in
    let split = ap (λ ps. takes Q (paths_from ps))
    (drop_item plain_path items c.loop-path.path-index c.path-item.result c.loop-path-test.true c.path-item.is) in
    ap (λ ts. ts ++ rest) c.in_ok-push.ensures.items
    ∙ (flagged-one c.loop-path.taken.items _ _ rest _ c.in_ok-takes_argument.ensures split ∙ c.loop-path.invariant)

pub returns : goal.returns
returns c =
    let Q = plain_paths c.args.argument.now in
    sym (append-nil c.loop-path.taken.items)
    ∙ (ap (λ ps. c.loop-path.taken.items ++ takes Q (paths_from ps))
    (sym (drop_end plain_path c.as_slice-path-items.result.now c.loop-path.path-index c.loop-path-test.false))
    ∙ c.loop-path.invariant)
