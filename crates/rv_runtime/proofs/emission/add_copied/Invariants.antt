use Rattle.std.proofs.Common.{◌≡◌, ◌-◌, List, ◌++◌}
use Rattle.rv_word.specs.declared.micros.Micro.{Micro}
use Rattle.rv_flow.specs.Lowering.{micro_items}
use Rattle.rv_runtime.specs.Routines.{copied_words}
use Rattle.rv_runtime.proofs.emission.add_copied.Given as goal

abbrev pub invariant-loop-k : goal.invariant-loop-k
invariant-loop-k l = (rest : List Micro) → l.items.items ++ micro_items 0 0 (copied_words (l.count - l.k) l.k rest) ≡ l.fn.items.items ++ micro_items 0 0 (copied_words l.count 0 rest)
