-- A path form with its paths by their keys.
use Rattle.fy_types.specs.Paths.{PlainPaths}
use Rattle.fy_types.specs.Reading.{plain_paths, paths_in}
use Rattle.fy_forms.specs.Keys.{IsIndex}
use Rattle.fy_order.specs.declared.keyed.PathIndex.{PathIndex}
use Rattle.fy_order.specs.Levels.{MayBeLevels}

-- the index has the form's paths by their keys, and the levels are theirs, if there are any
abbrev pub IsWhole : PathIndex → Type 0
IsWhole i = IsIndex i.groups (paths_in i.form.now) × MayBeLevels i.levels.items (plain_paths i.form.now)

-- the paths of the form that the index is of
abbrev pub indexed : PathIndex → PlainPaths
indexed i = plain_paths i.form.now
