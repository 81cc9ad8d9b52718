use Rattle.std.proofs.Common.{◌≡◌, map, drop}
use Rattle.fy_types.specs.Reading.{plain_path, plain_paths, paths_from}
use Rattle.fy_why.specs.Types.{first_alike}
use Rattle.fy_why.proofs.mismatch.first_alike.Given as goal

-- what is left decides
abbrev pub invariant-loop-path : goal.invariant-loop-path
invariant-loop-path l =
    first_alike (paths_from (map plain_path (drop l.path-index l.path-items))) (plain_path l.wanted) ≡ first_alike (plain_paths l.paths) (plain_path l.wanted)
