-- The limits on core phrases, in the order in which they are told.
use Rattle.std.specs.Prelude.{nat_lt, if◌then◌else◌, Result, Ok, Err}
use Rattle.fy_phrase.specs.Tree.{Tree}
use Rattle.fy_phrase.specs.Sizes.{nesting}
use Rattle.fy_phrase.specs.CoreLimits.{size_of, visits_of}
use Rattle.fy_expand.specs.declared.error.ExpandError.{ExpandError}
use Rattle.fy_expand.specs.declared.error.ExpandError.TheVariants.{TooDeep, TooLarge, TooManyVisits}

-- the phrase, or the first limit that it passes
abbrev pub limited : Tree → Result Tree ExpandError
limited p =
    if nat_lt 512 (nesting p) then Err TooDeep
    else (if nat_lt 65536 (size_of p) then Err TooLarge
    else (if nat_lt 65536 (visits_of p) then Err TooManyVisits
    else Ok p))
