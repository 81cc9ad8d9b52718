use Rattle.std.proofs.Common.{◌≡◌, ◌++◌, drop}
use Rattle.fy_syntax.specs.Print.{prefixes_text}
use Rattle.fy_syntax.proofs.printer.put_prefixes.Given as goal

abbrev pub invariant-loop-operator : goal.invariant-loop-operator
invariant-loop-operator l =
    l.text.items ++ prefixes_text (drop l.operator-index l.operator-items) ≡ l.initial.text.items ++ prefixes_text l.operators
