-- What the levels of a type that is read are, and why reading it stops.
use Rattle.fy_read.specs.declared.levels.Levels.{Levels}
use Rattle.fy_read.specs.declared.stop.Stop.{Stop}
use Rattle.fy_read.specs.declared.stop.Stop.TheVariants.{Misfit, TooLarge, TooDeep, OutOfMemory}
use Rattle.fy_read.specs.Levels.{plain_level, outer_levels}
use Rattle.fy_read.specs.OpenTypes.{PlainLevels}

abbrev pub levels_of : Levels → PlainLevels
levels_of ls = record { outer = outer_levels ls.outer.items; inner = plain_level ls.inner }

-- a limit on depth was passed, as is said, or memory was wanting
abbrev pub PassesIf : Type 0 → Stop → Type 0
PassesIf P TooDeep = P
PassesIf P OutOfMemory = Unit {0}
PassesIf P Misfit = ⊥
PassesIf P TooLarge = ⊥
