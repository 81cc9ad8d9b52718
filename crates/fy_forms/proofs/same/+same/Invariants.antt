use Rattle.std.proofs.Common.{◌≡◌, ◌↔◌, map, drop}
use Rattle.fy_types.specs.Paths.{end}
use Rattle.fy_types.specs.Reading.{plain_elem, plain_path, plain_paths, paths_from, fronted}
use Rattle.fy_forms.proofs.same.+same.Given as goal

abbrev pub invariant-are_same_paths-loop-i : goal.invariant-are_same_paths-loop-i
invariant-are_same_paths-loop-i l =
    (paths_from (map plain_path (drop l.i l.ps)) ≡ paths_from (map plain_path (drop l.i l.qs)))
    ↔ (plain_paths l.a ≡ plain_paths l.b)

abbrev pub invariant-is_same_path-loop-i : goal.invariant-is_same_path-loop-i
invariant-is_same_path-loop-i l =
    (fronted (map plain_elem (drop l.i l.xs)) (end l.p.end) ≡ fronted (map plain_elem (drop l.i l.ys)) (end l.q.end))
    ↔ (plain_path l.p ≡ plain_path l.q)
