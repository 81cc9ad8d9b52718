-- A word of a private contract: items of a part of a block.
use Rattle.std.specs.Prelude.{◌≡◌, ℕ, List, ◌++◌}
use Rattle.rv_asm.specs.declared.items.Item.{Item}
use Rattle.rv_word.specs.declared.micros.Micro.{Micro}
use Rattle.rv_flow.specs.Lowering.{micro_items}
use Rattle.rv_runtime.specs.Routines.{copied_words}

-- so many words that are copied were appended, whatever follows
abbrev pub AppendsCopied : ℕ → List Item → List Item → Type 0
AppendsCopied count before after = (rest : List Micro) → after ++ micro_items 0 0 rest ≡ before ++ micro_items 0 0 (copied_words count 0 rest)
