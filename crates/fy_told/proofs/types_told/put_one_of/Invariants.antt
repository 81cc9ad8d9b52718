use Rattle.std.proofs.Common.{◌≡◌, ◌++◌, drop, map}
use Rattle.fy_derive.specs.Shown.{all_shown}
use Rattle.fy_show.specs.Reading.{known_in}
use Rattle.fy_told.specs.ReasonTexts.{or_text, type_told}
use Rattle.fy_told.proofs.types_told.put_one_of.Given as goal

-- what is left, behind those so far
abbrev pub invariant-loop-i : goal.invariant-loop-i
invariant-loop-i l =
    l.text.items ++ or_text (map (type_told (known_in l.view)) (all_shown l.table (drop l.i l.all)))
    ≡ l.initial.text.items ++ or_text (map (type_told (known_in l.view)) (all_shown l.table l.all))
