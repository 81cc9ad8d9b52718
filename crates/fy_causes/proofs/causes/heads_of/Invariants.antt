use Rattle.std.proofs.Common.{◌≡◌, drop, map}
use Rattle.fy_types.specs.Paths.{append}
use Rattle.fy_types.specs.Reading.{paths_from, plain_path, plain_paths}
use Rattle.fy_causes.specs.Causes.{heads_of}
use Rattle.fy_causes.proofs.causes.heads_of.Given as goal

abbrev pub invariant-loop-path : goal.invariant-loop-path
invariant-loop-path l =
    append (plain_paths l.heads) (heads_of (paths_from (map plain_path (drop l.path-index l.path-items)))) ≡ heads_of (plain_paths l.paths)
