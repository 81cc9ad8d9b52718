use Rattle.std.proofs.Common.{◌≡◌, map, drop}
use Rattle.fy_forms.specs.Keys.{lent}
use Rattle.fy_types.specs.Reading.{plain_path, plain_paths, paths_from}
use Rattle.fy_derive.specs.Subsumption.{some_below, some_passes}
use Rattle.fy_order.proofs.demands.is_one_below.Given as goal

abbrev pub invariant-loop-above : goal.invariant-loop-above
invariant-loop-above l =
    some_passes (some_below (lent l.list)) (paths_from (map plain_path (drop l.above-index l.above-items)))
    ≡ some_passes (some_below (lent l.list)) (plain_paths l.form)
