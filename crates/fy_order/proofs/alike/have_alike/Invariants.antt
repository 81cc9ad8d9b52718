use Rattle.std.proofs.Common.{map, drop}
use Rattle.fy_types.specs.Paths.{end}
use Rattle.fy_types.specs.PathOrder.{IsPathBelow}
use Rattle.fy_types.specs.Reading.{plain_elem, plain_path, fronted}
use Rattle.fy_order.proofs.alike.have_alike.Given as goal

-- where what is left is below, the whole paths are
abbrev pub invariant-loop-i : goal.invariant-loop-i
invariant-loop-i l = record {
  low : IsPathBelow (fronted (map plain_elem (drop l.i l.xs)) (end l.p.end)) (fronted (map plain_elem (drop l.i l.ys)) (end l.q.end))
      → IsPathBelow (plain_path l.p) (plain_path l.q);
  high : IsPathBelow (fronted (map plain_elem (drop l.i l.ys)) (end l.q.end)) (fronted (map plain_elem (drop l.i l.xs)) (end l.p.end))
      → IsPathBelow (plain_path l.q) (plain_path l.p);
}
