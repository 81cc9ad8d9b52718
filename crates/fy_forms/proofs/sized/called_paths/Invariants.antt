use Rattle.std.proofs.Common.{◌≡◌, map}
use Rattle.fy_types.specs.Paths.{called}
use Rattle.fy_types.specs.Reading.{plain_path, plain_paths, paths_in, paths_from}
use Rattle.fy_forms.proofs.sized.called_paths.Given as goal

abbrev pub invariant-loop-path : goal.invariant-loop-path
invariant-loop-path l =
    paths_from (map plain_path (paths_in l.made)) ≡ called (plain_paths l.fn.domain) (paths_from (map plain_path l.yielded))
