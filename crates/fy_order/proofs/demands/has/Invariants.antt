use Rattle.std.proofs.Common.{◌≡◌, map, drop}
use Rattle.fy_types.specs.Paths.{end}
use Rattle.fy_types.specs.Reading.{plain_path, plain_paths, paths_from}
use Rattle.fy_derive.specs.Subsumption.{some_below}
use Rattle.fy_order.proofs.demands.has.Given as goal

abbrev pub invariant-loop-path : goal.invariant-loop-path
invariant-loop-path l =
    some_below (paths_from (map plain_path (drop l.path-index l.path-items))) (end l.atom) ≡ some_below (plain_paths l.paths) (end l.atom)
