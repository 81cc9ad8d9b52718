use Rattle.std.proofs.Common.{◌≡◌, ◌++◌, map, drop}
use Rattle.pe_code.specs.Code.{entry_of}
use Rattle.rv_select.specs.Program.{node_word, row}
use Rattle.rv_select.proofs.table.add_row.Given as goal

abbrev pub invariant-loop-node : goal.invariant-loop-node
invariant-loop-node l = l.words.items ++ map (λ node. node_word l.numbers (entry_of l.numbers node l.shape)) (drop l.node-index l.numbers.thunks) ≡ l.fn.words.items ++ row l.numbers l.shape
