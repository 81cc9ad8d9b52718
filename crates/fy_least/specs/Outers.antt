-- The types of variables around a whole phrase.
use Rattle.std.specs.Prelude.{Bool, true, Option, Some, None}
use Rattle.fy_types.specs.declared.paths.Paths.{Paths}
use Rattle.fy_types.specs.Once.{are_same, once}
use Rattle.fy_types.specs.Paths.{paths}
use Rattle.fy_types.specs.Reading.{plain_paths}
use Rattle.fy_types.specs.Types.{PlainType}

-- the paths, if there are any, are those of the type, each once
abbrev pub has_once : Option Paths → PlainType → Bool
has_once None A = true
has_once (Some p) A = are_same (plain_paths p) (once (paths A))
