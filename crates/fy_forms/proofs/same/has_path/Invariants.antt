use Rattle.std.proofs.Common.{◌≡◌, map, drop}
use Rattle.fy_types.specs.Reading.{plain_path, plain_paths, paths_from}
use Rattle.fy_types.specs.Once.{contains}
use Rattle.fy_forms.proofs.same.has_path.Given as goal

abbrev pub invariant-loop-member : goal.invariant-loop-member
invariant-loop-member l =
    contains (paths_from (map plain_path (drop l.member-index l.member-items))) (plain_path l.path)
    ≡ contains (plain_paths l.list) (plain_path l.path)
