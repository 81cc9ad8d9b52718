use Rattle.std.proofs.Common.{◌≡◌, drop, map}
use Rattle.std.specs.List.{list_any}
use Rattle.fy_show.specs.Entries.{has_name}
use Rattle.fy_show.specs.Reading.{entry_or, fields_read}
use Rattle.fy_told.proofs.wheres.is_any_hidden.Given as goal

-- what is left decides
abbrev pub invariant-loop-field : goal.invariant-loop-field
invariant-loop-field l =
    list_any (λ f. list_any (has_name f.1) (map entry_or l.inner)) (fields_read (drop l.field-index l.fields))
    ≡ list_any (λ f. list_any (has_name f.1) (map entry_or l.inner)) (fields_read l.fields)
