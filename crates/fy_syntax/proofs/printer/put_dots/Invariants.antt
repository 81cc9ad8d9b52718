use Rattle.std.proofs.Common.{◌≡◌, ◌++◌, drop}
use Rattle.fy_syntax.specs.Print.{dots_text}
use Rattle.fy_syntax.proofs.printer.put_dots.Given as goal

abbrev pub invariant-loop-field : goal.invariant-loop-field
invariant-loop-field l =
    l.text.items ++ dots_text l.names (drop l.field-index l.field-items) ≡ l.initial.text.items ++ dots_text l.names l.fields
