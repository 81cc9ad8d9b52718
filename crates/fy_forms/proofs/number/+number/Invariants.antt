use Rattle.std.proofs.Common.{◌≡◌, map, drop}
use Rattle.fy_forms.specs.Numbers.{path_number, paths_number}
use Rattle.fy_types.specs.Paths.{end}
use Rattle.fy_types.specs.Reading.{plain_elem, plain_path, plain_paths, paths_from, fronted}
use Rattle.fy_forms.proofs.number.+number.Given as goal

-- the number so far and what is left give the number
abbrev pub invariant-path_after-loop-elem : goal.invariant-path_after-loop-elem
invariant-path_after-loop-elem l =
    path_number l.number (fronted (map plain_elem (drop l.elem-index l.elem-items)) (end l.path.end)) ≡ path_number l.start (plain_path l.path)

abbrev pub invariant-paths_after-loop-path : goal.invariant-paths_after-loop-path
invariant-paths_after-loop-path l =
    paths_number l.number (paths_from (map plain_path (drop l.path-index l.path-items))) ≡ paths_number l.start (plain_paths l.paths)
