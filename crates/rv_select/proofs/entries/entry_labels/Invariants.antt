use Rattle.std.proofs.Common.{◌≡◌, ◌++◌, drop}
use Rattle.rv_select.specs.Program.{item_entries, word_code}
use Rattle.rv_select.proofs.entries.entry_labels.Given as goal

abbrev pub invariant-loop-address : goal.invariant-loop-address
invariant-loop-address l = l.labels.items ++ item_entries l.numbers l.address (drop l.address l.numbers.items) ≡ (word_code l.numbers).entries
