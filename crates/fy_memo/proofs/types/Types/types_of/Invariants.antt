use Rattle.std.proofs.Common.{◌≡◌, ◌≤◌, ◌*◌, length, map, take}
use Rattle.fy_types.specs.Fields.{HaveFullMeets, fields_in_all, fields_in_form}
use Rattle.fy_types.specs.Limits.{all_nesting}
use Rattle.fy_types.specs.Nested.{types_nesting}
use Rattle.fy_types.specs.Paths.{all_paths}
use Rattle.fy_types.specs.Reading.{plain_type, types_in, types_from, plain_path, paths_from}
use Rattle.fy_memo.proofs.types.Types.types_of.Given as goal

abbrev pub invariant-loop-path : goal.invariant-loop-path
invariant-loop-path l = record {
  made : all_paths (types_from (map plain_type (types_in l.all))) ≡ paths_from (map plain_path (take l.path-index l.list));
  nesting : types_nesting (types_from (map plain_type (types_in l.all))) ≤ 2 * all_nesting (paths_from (map plain_path (take l.path-index l.list)));
  full : HaveFullMeets (types_from (map plain_type (types_in l.all)));
  count : length (types_in l.all) ≡ l.path-index;
  fields : fields_in_all (types_from (map plain_type (types_in l.all))) ≡ fields_in_form (paths_from (map plain_path (take l.path-index l.list)));
}
