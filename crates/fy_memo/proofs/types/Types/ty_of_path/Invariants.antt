use Rattle.std.proofs.Common.{◌≡◌, ◌≤◌, ◌*◌, map, drop}
use Rattle.fy_types.specs.Fields.{HasFullMeets, fields_in, fields_in_path}
use Rattle.fy_types.specs.Limits.{nesting}
use Rattle.fy_types.specs.Nested.{type_nesting}
use Rattle.fy_types.specs.Paths.{and_path, no_paths, end, paths}
use Rattle.fy_types.specs.Reading.{plain_type, plain_elem, fronted}
use Rattle.fy_memo.proofs.types.Types.ty_of_path.Given as goal

abbrev pub invariant-loop-i : goal.invariant-loop-i
invariant-loop-i l = record {
  made : paths (plain_type l.ty) ≡ and_path (fronted (map plain_elem (drop l.i l.elems)) (end l.path.end)) no_paths;
  nesting : type_nesting (plain_type l.ty) ≤ 2 * nesting (fronted (map plain_elem (drop l.i l.elems)) (end l.path.end));
  full : HasFullMeets (plain_type l.ty);
  fields : fields_in (plain_type l.ty) ≡ fields_in_path (fronted (map plain_elem (drop l.i l.elems)) (end l.path.end));
}
