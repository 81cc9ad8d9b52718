use Rattle.std.proofs.Common.{◌≡◌, ◌≤◌, map, drop}
use Rattle.fy_types.specs.Paths.{end}
use Rattle.fy_types.specs.Reading.{plain_elem, plain_path, elems_in, fronted}
use Rattle.fy_types.specs.Bounds.{common}
use Rattle.fy_types.specs.Keeping.{all_fronted, sum_nodes}
use Rattle.fy_forms.proofs.join_forms.common_path.Given as goal

-- the elements so far stand in front of the common path of what is left
abbrev pub invariant-loop-i : goal.invariant-loop-i
invariant-loop-i l = record {
  made : common (plain_path l.p) (plain_path l.q)
      ≡ all_fronted (map plain_elem (elems_in l.elems))
      (common (fronted (map plain_elem (drop l.i l.xs)) (end l.p.end)) (fronted (map plain_elem (drop l.i l.ys)) (end l.q.end)));
  nodes : l.nodes ≡ sum_nodes (map plain_elem (elems_in l.elems));
  few : l.nodes ≤ 4096;
}
