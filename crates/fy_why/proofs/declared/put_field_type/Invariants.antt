use Rattle.std.proofs.Common.{◌≡◌, drop}
use Rattle.fy_types.specs.Reading.{plain_type}
use Rattle.fy_show.specs.Fresh.{fields_of}
use Rattle.fy_show.specs.Reading.{declared_read}
use Rattle.fy_why.specs.Sentences.{type_of_field}
use Rattle.fy_why.proofs.declared.put_field_type.Given as goal

-- what is left decides, and nothing is put yet
abbrev pub invariant-loop-field : goal.invariant-loop-field
invariant-loop-field l = record {
  same : type_of_field (declared_read (drop l.field-index l.field-items)) l.name ≡ type_of_field (fields_of (plain_type l.ty)) l.name;
  unput : l.text.items ≡ l.initial.text.items;
}
