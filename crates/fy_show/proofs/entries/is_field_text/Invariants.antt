use Rattle.std.proofs.Common.{◌≡◌, drop}
use Rattle.fy_show.specs.Entries.{is_field_name}
use Rattle.fy_show.specs.Reading.{fields_read}
use Rattle.fy_show.proofs.entries.is_field_text.Given as goal

-- what is left decides
abbrev pub invariant-loop-field : goal.invariant-loop-field
invariant-loop-field l = is_field_name l.text (fields_read (drop l.field-index l.fields)) ≡ is_field_name l.text (fields_read l.fields)
