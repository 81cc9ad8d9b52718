-- Path forms with each path once.
use Rattle.std.specs.Prelude.{Bool, Option, Some, None}
use Rattle.fy_types.specs.declared.paths.Paths.{Paths}
use Rattle.fy_types.specs.Once.{are_same, once}
use Rattle.fy_types.specs.Reading.{plain_paths}

-- the others are the paths, each once; where there are none, each of the paths stands once
abbrev pub has_each : Paths → Option Paths → Bool
has_each P None = are_same (once (plain_paths P)) (plain_paths P)
has_each P (Some E) = are_same (once (plain_paths P)) (plain_paths E)
