use Rattle.std.proofs.Common.{◌≡◌, map, drop}
use Rattle.fy_types.specs.Paths.{end}
use Rattle.fy_types.specs.Reading.{plain_elem, plain_path, fronted}
use Rattle.fy_types.specs.Bounds.{common}
use Rattle.fy_types.specs.Keeping.{is_some}
use Rattle.fy_forms.proofs.join_forms.has_common.Given as goal

-- what is left of the paths has a common path where the paths have one
abbrev pub invariant-loop-i : goal.invariant-loop-i
invariant-loop-i l =
    is_some (common (fronted (map plain_elem (drop l.i l.xs)) (end l.p.end)) (fronted (map plain_elem (drop l.i l.ys)) (end l.q.end)))
    ≡ is_some (common (plain_path l.p) (plain_path l.q))
