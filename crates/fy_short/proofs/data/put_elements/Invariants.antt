use Rattle.std.proofs.Common.{◌≡◌, ◌++◌, drop}
use Rattle.fy_short.specs.DataTexts.{elements_text}
use Rattle.fy_short.proofs.data.put_elements.Given as goal

abbrev pub invariant-loop-byte : goal.invariant-loop-byte
invariant-loop-byte l = l.text.items ++ elements_text 34 (drop l.byte-index l.bytes) ≡ l.initial.text.items ++ elements_text 34 l.bytes
