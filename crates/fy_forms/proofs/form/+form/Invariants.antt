use Rattle.std.proofs.Common.{map, take}
use Rattle.fy_types.specs.Paths.{all_paths}
use Rattle.fy_types.specs.Reading.{plain_type, types_from}
use Rattle.fy_forms.specs.Sized.{IsSized}
use Rattle.fy_forms.proofs.form.+form.Given as goal

abbrev pub invariant-form_of_all-loop-ty : goal.invariant-form_of_all-loop-ty
invariant-form_of_all-loop-ty l = IsSized l.form (all_paths (types_from (map plain_type (take l.ty-index l.ty-items))))
