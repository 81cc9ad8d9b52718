use Rattle.std.proofs.Common.{◌≡◌, ◌++◌, map, drop}
use Rattle.fy_types.specs.Reading.{plain_path, plain_paths, paths_from}
use Rattle.fy_order.specs.Demands.{takes}
use Rattle.fy_order.proofs.demands.takers.Given as goal

abbrev pub invariant-loop-path : goal.invariant-loop-path
invariant-loop-path l =
    l.taken.items ++ takes (plain_paths l.argument) (paths_from (map plain_path (drop l.path-index l.path-items)))
    ≡ takes (plain_paths l.argument) (plain_paths l.paths)
