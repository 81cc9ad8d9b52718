use Rattle.std.proofs.Common.{◌≡◌, ◌++◌, [], drop}
use Rattle.fy_types.specs.Reading.{plain_type}
use Rattle.fy_show.specs.Fresh.{fields_of}
use Rattle.fy_show.specs.Reading.{declared_read, fields_read, known_read}
use Rattle.fy_show.specs.Texts.{declared_text}
use Rattle.fy_show.proofs.print.put_declared.Given as goal

abbrev pub invariant-loop-field : goal.invariant-loop-field
invariant-loop-field l =
    l.text.items ++ declared_text (known_read l.view.known.now) (fields_read l.fields) l.lead (declared_read (drop l.field-index l.field-items))
    ≡ l.initial.text.items ++ declared_text (known_read l.view.known.now) (fields_read l.fields) [] (fields_of (plain_type l.ty))
