use Rattle.std.proofs.Common.{◌≡◌, ◌++◌, [], drop}
use Rattle.fy_show.specs.Reading.{fields_read}
use Rattle.fy_show.specs.Texts.{fields_text}
use Rattle.fy_show.proofs.print.put_fields.Given as goal

abbrev pub invariant-loop-field : goal.invariant-loop-field
invariant-loop-field l = l.text.items ++ fields_text l.lead (fields_read (drop l.field-index l.fields)) ≡ l.initial.text.items ++ fields_text [] (fields_read l.fields)
