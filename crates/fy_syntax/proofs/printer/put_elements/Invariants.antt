use Rattle.std.proofs.Common.{◌≡◌, ◌++◌, drop}
use Rattle.fy_syntax.specs.Print.{elements_text}
use Rattle.fy_syntax.specs.Ranges.{AreBytes}
use Rattle.fy_syntax.proofs.printer.put_elements.Given as goal

abbrev pub invariant-loop-byte : goal.invariant-loop-byte
invariant-loop-byte l = record {
  text : l.text.items ++ elements_text (drop l.byte-index l.bytes) ≡ l.initial.text.items ++ elements_text l.bytes;
  ranges : AreBytes (drop l.byte-index l.bytes) → AreBytes l.bytes;
}
