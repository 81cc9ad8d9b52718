-- The code that is selected is short: its words, its table and its places.
use Rattle.std.proofs.Common.{◌≡◌, ℕ, zero, suc, ◌+◌, ◌*◌, ◌^◌, ◌<◌, ◌≤◌, true, false, List, [], ◌∷◌, ◌++◌, length, map, Some, None, refl, sym, subst, arith}
use Rattle.std.proofs.lemmas.Bool.{cond_both}
use Rattle.std.proofs.lemmas.List.{length-map}
use Rattle.std.proofs.lemmas.List.Elements.{All-nil, All-cons, All-append, All-map}
use Rattle.std.specs.Prelude.{slice_get, slice_index_or, All}
use Rattle.std.specs.declared.option.Option.{Option}
use Rattle.pe_code.specs.declared.code.PeItem.{PeItem}
use Rattle.pe_code.specs.declared.code.PeCode.{PeCode}
use Rattle.pe_code.specs.Code.{entry_of}
use Rattle.pe_code.specs.Valid.{IsValid, all_picked_from, all_parts_run, all_places_in}
use Rattle.pe_machine.specs.Step.{is_assignment, Asked, a_cell, a_length, no_part, asked_at}
use Rattle.rv_flow.specs.Laws.{blocks_words}
use Rattle.rv_runtime.specs.Routines.{routine_blocks}
use Rattle.rv_operators.specs.Operators.{operator_blocks}
use Rattle.rv_select.specs.Numbers.{meet, first_operator, entries_in, entry_word, datum_entry, read_entry, write_entry, leave_entry, element_entry}
use Rattle.rv_select.specs.Blocks.{blocks_of, own_blocks}
use Rattle.rv_select.specs.Program.{item_blocks, node_word, cell_word, sequence_word, row, rows, word_code}
use Rattle.rv_select.specs.Laws.{IsSelectable, code_words, SelectionIsShort}
use Rattle.rv_select.proofs.Asking.{asked_word, sequence_word_is}
use Rattle.rv_select.proofs.Placed.{entries_total, rows_length}
use Rattle.rv_select.proofs.Fitting.{entry_small, small_at, index_small}
use Rattle.rv_select.proofs.BlockSizes.{IsSmall, insn_words, index_words, words_joined}

-- ---- words

module _ (code : PeCode) where
  -- of items from address c on
  items_words : (c : ℕ) (is : List PeItem) → ((a : ℕ) (i : PeItem) → slice_get is a ≡ Some i → IsSmall code i.depth i.insn)
      → 2 * entries_in is + blocks_words (item_blocks code c is) + 23 * all_places_in is ≤ 58 * length is + 2 * all_picked_from is + 23 * all_parts_run is
  items_words c [] each = omega arith
  items_words c (i ∷ is) each =
      let rest = items_words (suc c) is (λ a j h. each (suc a) j h) in
      let here = insn_words code c i.depth i.insn (each 0 i refl) in
      let all = words_joined (blocks_of code c i.depth i.insn) (item_blocks code (suc c) is) in
      omega arith

  -- what every program has takes 919, and the far jumps to its entries 30
  pub words_few : IsSelectable code → code_words (word_code code) ≤ 60 * length code.items + 949
  words_few ok =
      let items = items_words 0 code.items (λ a i h. small_at code ok a i h) in
      let parts = ok.valid.parts in
      let run = ok.valid.straight in
      let entries = entries_total code 0 code.items in
      let read = index_words code (element_entry false) code.sequences.value (omega arith) (index_small code ok) in
      let write = index_words code (element_entry true) code.sequences.value (omega arith) (index_small code ok) in
      let own = words_joined (own_blocks code) (item_blocks code 0 code.items) in
      let work = words_joined (operator_blocks first_operator meet) (own_blocks code ++ item_blocks code 0 code.items) in
      let routines = words_joined routine_blocks (operator_blocks first_operator meet ++ (own_blocks code ++ item_blocks code 0 code.items)) in
      omega arith

-- ---- words of the table

module _ (code : PeCode) (valid : IsValid code) where
  node_fits : (o : Option ℕ) → node_word code o < 2 ^ 64
  node_fits (Some a) = let few = entry_small code valid a in omega arith
  node_fits None = omega arith

  cell_fits : (shape : ℕ) → cell_word code shape < 2 ^ 64
  cell_fits shape = cond_both (is_assignment code.assignment shape) (entry_word write_entry) (entry_word read_entry) (λ v. v < 2 ^ 64) (λ e. omega arith) (λ e. omega arith)

  asked_fits : (a : Asked) → asked_word a < 2 ^ 64
  asked_fits (a_cell true) = omega arith
  asked_fits (a_cell false) = omega arith
  asked_fits a_length = omega arith
  asked_fits no_part = omega arith

  sequence_fits : (shape : ℕ) → sequence_word code shape < 2 ^ 64
  sequence_fits shape = subst (λ v. v < 2 ^ 64) (sym (sequence_word_is code shape)) (asked_fits (asked_at code.sequences shape))

  row_fits : (shape : ℕ) → All (λ v. v < 2 ^ 64) (row code shape)
  row_fits shape =
      let P = λ (v : ℕ). v < 2 ^ 64 in
      let nodes = map (λ node. node_word code (entry_of code node shape)) code.thunks in
      let sequences = sequence_word code shape ∷ nodes in
      let escapes = entry_word leave_entry ∷ sequences in
      let single = cell_word code shape ∷ escapes in
      let all_nodes : All P nodes = All-map P (λ node. node_word code (entry_of code node shape)) code.thunks (λ k n lt. node_fits (entry_of code (slice_index_or code.thunks k n) shape)) in
      let all_sequences : All P sequences = All-cons P (sequence_word code shape) nodes (sequence_fits shape) all_nodes in
      let all_escapes : All P escapes = All-cons P (entry_word leave_entry) sequences (omega arith) all_sequences in
      All-cons P (entry_word datum_entry) single (omega arith) (All-cons P (cell_word code shape) escapes (cell_fits shape) all_escapes)

  rows_fit : (n shape : ℕ) → All (λ v. v < 2 ^ 64) (rows code shape n)
  rows_fit zero shape = All-nil (λ v. v < 2 ^ 64)
  rows_fit (suc n) shape = All-append (λ v. v < 2 ^ 64) (row code shape) (rows code (suc shape) n) (row_fits shape) (rows_fit n (suc shape))

pub short : SelectionIsShort
short code ok =
    record {
      words = (let few = words_few code ok in omega arith);
      table = (let size = rows_length code code.shapes 0 in let few = ok.valid.words in omega arith);
      table_fits = rows_fit code ok.valid code.shapes 0;
      places = length-map code.items (λ (i : PeItem). i.place);
    }
