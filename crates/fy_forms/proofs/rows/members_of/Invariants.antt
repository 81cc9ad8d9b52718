use Rattle.std.proofs.Common.{◌≡◌, ◌++◌, map, drop}
use Rattle.fy_types.specs.Paths.{end}
use Rattle.fy_types.specs.Reading.{plain_elem, plain_path, fronted}
use Rattle.fy_forms.specs.Rows.{plain_member, members}
use Rattle.fy_forms.proofs.rows.members_of.Given as goal

-- the members so far and those of what is left are the path's
abbrev pub invariant-loop-place : goal.invariant-loop-place
invariant-loop-place l =
    map plain_member l.list.items ++ members l.place (fronted (map plain_elem (drop l.place l.elems)) (end l.path.end))
    ≡ members 0 (plain_path l.path)
