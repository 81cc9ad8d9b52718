use Rattle.std.proofs.Common.{◌≡◌, ◌++◌, map, take}
use Rattle.fy_types.specs.Reading.{plain_path, paths_from}
use Rattle.fy_forms.specs.Rows.{plain_member, tagged}
use Rattle.fy_forms.proofs.rows.with_domain.Given as goal

abbrev pub invariant-loop-path : goal.invariant-loop-path
invariant-loop-path l =
    map plain_member l.made.items
    ≡ map plain_member l.fn.list.items ++ tagged l.place (paths_from (map plain_path (take l.path-index l.path-items)))
