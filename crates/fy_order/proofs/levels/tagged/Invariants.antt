use Rattle.std.proofs.Common.{◌≡◌, ◌++◌, map, drop}
use Rattle.fy_types.specs.Reading.{plain_path, paths_from}
use Rattle.fy_order.specs.Levels.{all_tagged, plain_tagged}
use Rattle.fy_order.proofs.levels.tagged.Given as goal

-- those so far and what is left are all
abbrev pub invariant-loop-path : goal.invariant-loop-path
invariant-loop-path l =
    map plain_tagged l.nodes.items ++ all_tagged 0 (paths_from (map plain_path (drop l.path-index l.paths)))
    ≡ all_tagged 0 (paths_from (map plain_path l.paths))
