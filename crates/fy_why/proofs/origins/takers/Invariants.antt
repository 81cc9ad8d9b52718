use Rattle.std.proofs.Common.{◌≡◌, map, drop}
use Rattle.fy_types.specs.Paths.{append}
use Rattle.fy_types.specs.Reading.{plain_path, plain_paths, paths_from}
use Rattle.fy_why.specs.Origins.{takers}
use Rattle.fy_why.proofs.origins.takers.Given as goal

-- those so far, in front of those that are left
abbrev pub invariant-loop-path : goal.invariant-loop-path
invariant-loop-path l =
    append (plain_paths l.made) (takers (plain_paths l.argument) (paths_from (map plain_path (drop l.path-index l.path-items))))
    ≡ takers (plain_paths l.argument) (plain_paths l.all)
