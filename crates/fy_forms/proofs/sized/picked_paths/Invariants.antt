use Rattle.std.proofs.Common.{◌≡◌, map}
use Rattle.fy_types.specs.Paths.{picked}
use Rattle.fy_types.specs.Reading.{plain_path, paths_in, paths_from}
use Rattle.fy_forms.proofs.sized.picked_paths.Given as goal

abbrev pub invariant-loop-path : goal.invariant-loop-path
invariant-loop-path l =
    paths_from (map plain_path (paths_in l.made)) ≡ picked l.name (paths_from (map plain_path l.yielded))
