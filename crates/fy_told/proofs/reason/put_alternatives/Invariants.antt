use Rattle.std.proofs.Common.{◌≡◌, ◌++◌, [], drop, map}
use Rattle.fy_types.specs.Reading.{plain_type, types_from}
use Rattle.fy_show.specs.Reading.{known_in}
use Rattle.fy_told.specs.ReasonTexts.{alternative_texts, listed}
use Rattle.fy_told.proofs.reason.put_alternatives.Given as goal

-- what is left, behind those so far
abbrev pub invariant-loop-i : goal.invariant-loop-i
invariant-loop-i l =
    l.text.items ++ listed l.lead (alternative_texts (known_in l.view) l.i (types_from (map plain_type (drop l.i l.types))))
    ≡ l.initial.text.items ++ listed [] (alternative_texts (known_in l.view) 0 (types_from (map plain_type l.types)))
