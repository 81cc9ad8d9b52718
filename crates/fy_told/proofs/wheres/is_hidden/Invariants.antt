use Rattle.std.proofs.Common.{◌≡◌, drop, map}
use Rattle.std.specs.List.{list_any}
use Rattle.fy_show.specs.Entries.{has_name}
use Rattle.fy_show.specs.Reading.{entry_or}
use Rattle.fy_told.proofs.wheres.is_hidden.Given as goal

-- what is left decides
abbrev pub invariant-loop-i : goal.invariant-loop-i
invariant-loop-i l =
    list_any (has_name l.name) (map entry_or (drop l.i l.inner)) ≡ list_any (has_name l.name) (map entry_or l.inner)
