-- Expansion: from a written phrase to its core phrase, or to the first fault.
use Rattle.std.specs.Prelude.{Option, Some, None, Result, Ok, Err}
use Rattle.fy_syntax.specs.Trees as written
use Rattle.fy_phrase.specs.Tree.{Tree}
use Rattle.fy_expand.specs.declared.error.ExpandError.{ExpandError}
use Rattle.fy_expand.specs.Scope.{program_scope}
use Rattle.fy_expand.specs.Front.{front}
use Rattle.fy_expand.specs.Core.{core, in_prelude}
use Rattle.fy_expand.specs.Faults.{fault}
use Rattle.fy_expand.specs.Sizes.{limited}

-- the phrase, unless there is a fault
abbrev pub unless : Option ExpandError → Tree → Result Tree ExpandError
unless None p = Ok p
unless (Some e) p = Err e

-- the core phrase of a program, or its first fault in the order of the text
abbrev pub expansion_of : written.Tree → Result Tree ExpandError
expansion_of tree = unless (fault program_scope tree) (in_prelude (front tree) (core program_scope tree))

-- the same within the core limits, which come after all faults
abbrev pub within_limits : Result Tree ExpandError → Result Tree ExpandError
within_limits (Ok p) = limited p
within_limits (Err e) = Err e

abbrev pub core_of : written.Tree → Result Tree ExpandError
core_of tree = within_limits (expansion_of tree)
