use Rattle.std.proofs.Common.{map, take}
use Rattle.fy_types.specs.Reading.{plain_path, plain_paths, paths_from}
use Rattle.fy_forms.specs.Sized.{IsSized}
use Rattle.fy_types.specs.Keeping.{all_added}
use Rattle.fy_forms.proofs.kept.keep_each.Given as goal

abbrev pub invariant-loop-path : goal.invariant-loop-path
invariant-loop-path l = IsSized l.form (all_added (plain_paths l.fn.kept.paths) (paths_from (map plain_path (take l.path-index l.path-items))))
