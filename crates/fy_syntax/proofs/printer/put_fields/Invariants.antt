use Rattle.std.proofs.Common.{◌≡◌, ◌++◌, drop}
use Rattle.fy_syntax.specs.Print.{fields_text}
use Rattle.fy_syntax.proofs.printer.put_fields.Given as goal

abbrev pub invariant-loop-field : goal.invariant-loop-field
invariant-loop-field l =
    l.text.items ++ fields_text l.names (drop l.field-index l.field-items) ≡ l.initial.text.items ++ fields_text l.names l.fields
