use Rattle.std.proofs.Common.{◌≡◌, ◌++◌, drop}
use Rattle.fy_tree.specs.Lines.{escaped}
use Rattle.fy_tree.proofs.escape.put_escaped.Given as goal

abbrev pub invariant-loop-byte : goal.invariant-loop-byte
invariant-loop-byte l = l.text.items ++ escaped l.last (drop l.byte-index l.bytes) ≡ l.initial.text.items ++ escaped 0 l.bytes
