use Rattle.std.proofs.Common.{take}
use Rattle.fy_types.specs.Reading.{plain_path, plain_paths}
use Rattle.fy_forms.specs.Sized.{IsSized}
use Rattle.fy_types.specs.Bounds.{commons_with}
use Rattle.fy_forms.specs.Keys.{IsSeen, lent}
use Rattle.fy_types.specs.Keeping.{all_added}
use Rattle.fy_forms.proofs.join_forms.keep_commons.Given as goal

abbrev pub invariant-loop-other : goal.invariant-loop-other
invariant-loop-other l = record {
  sized : IsSized l.form (all_added (plain_paths l.fn.kept.paths) (commons_with (plain_path l.path) (lent (take l.other-index l.list))));
  seen : IsSeen l.places (plain_paths l.form.paths);
}
