use Rattle.std.proofs.Common.{◌≡◌, map, take}
use Rattle.fy_types.specs.Reading.{plain_path, paths_in}
use Rattle.fy_types.proofs.copy.copy_paths.Given as goal

abbrev pub invariant-loop-path : goal.invariant-loop-path
invariant-loop-path l = map plain_path (paths_in l.made) ≡ map plain_path (take l.path-index l.path-items)
