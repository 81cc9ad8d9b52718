use Rattle.std.proofs.Common.{◌≡◌, ◌-◌, ◌++◌}
use Rattle.rv_select.specs.Program.{rows, word_code}
use Rattle.rv_select.proofs.table.table_of.Given as goal

abbrev pub invariant-loop-shape : goal.invariant-loop-shape
invariant-loop-shape l = l.words.items ++ rows l.numbers l.shape (l.numbers.shapes - l.shape) ≡ (word_code l.numbers).table
