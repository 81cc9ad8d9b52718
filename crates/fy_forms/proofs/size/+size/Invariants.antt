use Rattle.std.proofs.Common.{◌≡◌, map, take, drop}
use Rattle.fy_types.specs.Paths.{end}
use Rattle.fy_types.specs.Reading.{plain_elem, plain_path, paths_from, fronted}
use Rattle.fy_types.specs.Limits.{nodes, nesting, all_nodes, all_nesting}
use Rattle.fy_types.specs.Keeping.{capped}
use Rattle.fy_forms.proofs.size.+size.Given as goal

abbrev pub invariant-size_of_path-loop-i : goal.invariant-size_of_path-loop-i
invariant-size_of_path-loop-i l = record {
  nodes : l.size.nodes ≡ capped (nodes (fronted (map plain_elem (drop l.i l.elems)) (end l.path.end)));
  nesting : l.size.nesting ≡ capped (nesting (fronted (map plain_elem (drop l.i l.elems)) (end l.path.end)));
}

abbrev pub invariant-size_of_paths-loop-path : goal.invariant-size_of_paths-loop-path
invariant-size_of_paths-loop-path l = record {
  nodes : l.nodes ≡ capped (all_nodes (paths_from (map plain_path (take l.path-index l.path-items))));
  nesting : l.nesting ≡ capped (all_nesting (paths_from (map plain_path (take l.path-index l.path-items))));
}
