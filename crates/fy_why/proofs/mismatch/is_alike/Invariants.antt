use Rattle.std.proofs.Common.{◌≡◌, map, drop}
use Rattle.fy_types.specs.Paths.{end}
use Rattle.fy_types.specs.Reading.{plain_elem, plain_path, fronted}
use Rattle.fy_why.specs.Types.{is_alike}
use Rattle.fy_why.proofs.mismatch.is_alike.Given as goal

-- what is left decides
abbrev pub invariant-loop-i : goal.invariant-loop-i
invariant-loop-i l =
    is_alike (fronted (map plain_elem (drop l.i l.xs)) (end l.p.end)) (fronted (map plain_elem (drop l.i l.ys)) (end l.q.end))
    ≡ is_alike (plain_path l.p) (plain_path l.q)
