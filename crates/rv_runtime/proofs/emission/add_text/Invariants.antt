use Rattle.std.proofs.Common.{◌≡◌, ◌++◌, drop}
use Rattle.rv_flow.specs.Lowering.{micro_items, block_items}
use Rattle.rv_runtime.specs.Routines.{text_block}
use Rattle.rv_runtime.proofs.emission.add_text.Given as goal

abbrev pub invariant-loop-byte : goal.invariant-loop-byte
invariant-loop-byte l = l.items.items ++ micro_items 0 0 (text_block (drop l.byte-index l.text)) ≡ l.fn.items.items ++ block_items 0 0 l.label (text_block l.text)
