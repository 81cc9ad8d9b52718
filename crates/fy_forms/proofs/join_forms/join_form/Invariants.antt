use Rattle.std.proofs.Common.{map, take}
use Rattle.fy_types.specs.Paths.{no_paths}
use Rattle.fy_types.specs.Reading.{plain_path, plain_paths, paths_from}
use Rattle.fy_forms.specs.Sized.{IsSized}
use Rattle.fy_types.specs.Bounds.{commons}
use Rattle.fy_forms.specs.Keys.{IsSeen}
use Rattle.fy_forms.specs.Rows.{AreKnown}
use Rattle.fy_types.specs.Keeping.{all_added}
use Rattle.fy_forms.proofs.join_forms.join_form.Given as goal

abbrev pub invariant-loop-path : goal.invariant-loop-path
invariant-loop-path l = record {
  sized : IsSized l.form (all_added no_paths (commons (paths_from (map plain_path (take l.path-index l.path-items))) (plain_paths l.b)));
  seen : IsSeen l.places (plain_paths l.form.paths);
  known : AreKnown l.known l.groups;
}
