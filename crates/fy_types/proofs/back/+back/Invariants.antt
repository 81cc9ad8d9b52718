use Rattle.std.proofs.Common.{◌≡◌, ◌≤◌, ◌*◌, length, map, take, drop}
use Rattle.fy_types.specs.Fields.{HasFullMeets, HaveFullMeets, fields_in, fields_in_all, fields_in_form, fields_in_path}
use Rattle.fy_types.specs.Limits.{all_nesting, nesting}
use Rattle.fy_types.specs.Nested.{type_nesting, types_nesting}
use Rattle.fy_types.specs.Paths.{and_path, no_paths, end, paths, all_paths}
use Rattle.fy_types.specs.Reading.{plain_type, types_in, types_from, plain_elem, plain_path, paths_from, fronted}
use Rattle.fy_types.proofs.back.+back.Given as goal

abbrev pub invariant-types_of-loop-path : goal.invariant-types_of-loop-path
invariant-types_of-loop-path l = record {
  made : all_paths (types_from (map plain_type (types_in l.all))) ≡ paths_from (map plain_path (take l.path-index l.list));
  nesting : types_nesting (types_from (map plain_type (types_in l.all))) ≤ 2 * all_nesting (paths_from (map plain_path (take l.path-index l.list)));
  full : HaveFullMeets (types_from (map plain_type (types_in l.all)));
  count : length (types_in l.all) ≡ l.path-index;
  fields : fields_in_all (types_from (map plain_type (types_in l.all))) ≡ fields_in_form (paths_from (map plain_path (take l.path-index l.list)));
}

abbrev pub invariant-ty_of_path-loop-i : goal.invariant-ty_of_path-loop-i
invariant-ty_of_path-loop-i l = record {
  made : paths (plain_type l.ty) ≡ and_path (fronted (map plain_elem (drop l.i l.elems)) (end l.path.end)) no_paths;
  nesting : type_nesting (plain_type l.ty) ≤ 2 * nesting (fronted (map plain_elem (drop l.i l.elems)) (end l.path.end));
  full : HasFullMeets (plain_type l.ty);
  fields : fields_in (plain_type l.ty) ≡ fields_in_path (fronted (map plain_elem (drop l.i l.elems)) (end l.path.end));
}
