use Rattle.std.proofs.Common.{◌≡◌, drop, map}
use Rattle.fy_types.specs.Reading.{paths_from, plain_path, plain_paths}
use Rattle.fy_causes.specs.Causes.{first_missed}
use Rattle.fy_causes.proofs.causes.first_missed.Given as goal

-- what is left decides
abbrev pub invariant-loop-path : goal.invariant-loop-path
invariant-loop-path l =
    first_missed (plain_paths l.argument) (paths_from (map plain_path (drop l.path-index l.path-items)))
    ≡ first_missed (plain_paths l.argument) (plain_paths l.others)
