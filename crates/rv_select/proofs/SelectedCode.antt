-- What code for the word machine has that was selected for push-enter code.
use Rattle.std.proofs.Common.{◌≡◌, ℕ, ◌+◌, ◌*◌, ◌<◌, ◌≤◌, [], length, Some}
use Rattle.std.specs.Prelude.{slice_get, slice_index, slice_index_or}
use Rattle.std.specs.Option.{ForSome}
use Rattle.pe_code.specs.declared.code.PeItem.{PeItem}
use Rattle.pe_code.specs.declared.code.PeCode.{PeCode}
use Rattle.pe_code.specs.Code.{item_at}
use Rattle.rv_word.specs.Word.{Code, block}
use Rattle.rv_runtime.specs.Laws.{HoldsRoutines}
use Rattle.rv_operators.specs.Laws.{HoldsOperators}
use Rattle.rv_select.specs.Numbers.{meet, first_operator, first_own, block_count, entry_count, fixed_entries, label_of, entry_number, row_words}
use Rattle.rv_select.specs.Blocks.{main_block, blocks_of, entries_of, caller_blocks, own_blocks}
use Rattle.rv_select.specs.Program.{row}

-- entry k leads to a label
pub record IsEntry (w : Code) (k label : ℕ) : Type 0 where
  pub inside : k < length w.entries
  pub leads : slice_index w.entries k ≡ label

pub record IsTableWord (w : Code) (k v : ℕ) : Type 0 where
  pub inside : k < length w.table
  pub value : slice_index w.table k ≡ v

pub record IsSelected (code : PeCode) (w : Code) : Type 0 where
  -- the blocks that every program has
  pub callers : (k : ℕ) → k < 2 → block w k ≡ slice_index_or caller_blocks k []
  pub own : (k : ℕ) → k < 21 → block w (first_own + k) ≡ slice_index_or (own_blocks code) k []
  -- those of an item
  pub main : (a : ℕ) (i : PeItem) → item_at code a ≡ Some i → block w (label_of code a) ≡ main_block code a i.depth i.insn
  pub further : (a : ℕ) (i : PeItem) (k : ℕ) → item_at code a ≡ Some i → k < block_count i.insn
      → block w (label_of code a + k) ≡ slice_index_or (blocks_of code a i.depth i.insn) k []
  -- entries
  pub fixed : (k : ℕ) → k < 15 → IsEntry w k (slice_index fixed_entries k)
  pub first_entry : (a : ℕ) (i : PeItem) → item_at code a ≡ Some i → IsEntry w (entry_number code a) (label_of code a)
  pub entries : (a : ℕ) (i : PeItem) (k : ℕ) → item_at code a ≡ Some i → k < entry_count i.insn
      → IsEntry w (entry_number code a + k) (slice_index (entries_of code a i.depth i.insn) k)
  -- words of the table
  pub rows : (shape k : ℕ) → shape < code.shapes → k < row_words code → IsTableWord w (shape * row_words code + k) (slice_index (row code shape) k)
  pub few_rows : length w.table ≤ 1048576
  -- the shape at which an index is entered
  pub indexed : ForSome code.sequences.value (λ s. s < code.shapes)
  -- places, routines and operators
  pub places : (a : ℕ) (i : PeItem) → item_at code a ≡ Some i → slice_get w.places a ≡ Some i.place
  pub routines : HoldsRoutines w
  pub operators : HoldsOperators w first_operator meet
