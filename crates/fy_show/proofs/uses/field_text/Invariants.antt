use Rattle.std.proofs.Common.{◌≡◌, drop}
use Rattle.fy_show.specs.Entries.{field_name}
use Rattle.fy_show.specs.Reading.{fields_read}
use Rattle.fy_show.proofs.uses.field_text.Given as goal

-- what is left decides
abbrev pub invariant-loop-field : goal.invariant-loop-field
invariant-loop-field l = field_name (fields_read (drop l.field-index l.fields)) l.name ≡ field_name (fields_read l.fields) l.name
