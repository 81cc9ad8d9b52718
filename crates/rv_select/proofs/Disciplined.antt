-- The code that is selected is disciplined.
use Rattle.std.proofs.Common.{◌≡◌, ℕ, suc, ◌+◌, true, false, List, [], ◌∷◌, ◌++◌, length, take, Option, Some, None, refl, subst, arith}
use Rattle.std.proofs.lemmas.Bool.{and_from, and_parts, le-leb}
use Rattle.std.specs.Prelude.{slice_get, nat_lt, nat_le}
use Rattle.std.specs.Option.{ForSome}
use Rattle.pe_code.specs.declared.code.PeItem.{PeItem}
use Rattle.pe_code.specs.declared.code.PeCode.{PeCode}
use Rattle.rv_word.specs.declared.micros.Micro.{Micro}
use Rattle.rv_word.specs.Word.{zeros}
use Rattle.rv_word.specs.Discipline.{Bounds, is_disciplined_from, are_disciplined, are_below}
use Rattle.rv_runtime.specs.Routines.{exhausted, put_true, put_false, put_int, routine_blocks}
use Rattle.rv_runtime.specs.Laws.{RoutinesAreDisciplined}
use Rattle.rv_operators.specs.Operators.{operator_blocks}
use Rattle.rv_operators.specs.Laws.{OperatorsAreDisciplined}
use Rattle.rv_select.specs.Numbers.{meet, first_operator, start_label, end_label, datum_label, read_label, write_label, leave_label, pop_label, put_int_label, put_char_label, put_bool_label, no_count_label, fill_label, filled_label, read_element_label, write_element_label, outside_label, length_label, no_room_label, index_read_label, index_write_label, fixed_entries, element_entry, label_of, entry_word, row_address}
use Rattle.rv_select.specs.Blocks.{index_block, blocks_of, entries_of, caller_blocks, sequence_blocks, own_blocks}
use Rattle.rv_select.specs.Program.{item_blocks, item_entries, word_code}
use Rattle.rv_select.specs.Laws.{IsSelectable, SelectionIsDisciplined}
use Rattle.rv_select.proofs.PartDiscipline.{IsLabel, IsWord, joined}
use Rattle.rv_select.proofs.BlockDiscipline.{Fits, InsnFits, low, blocks_fine, entries_fine}
use Rattle.rv_select.proofs.Fitting.{bounds, led_label, fits, insn_fits}

below_joined : (n : ℕ) (xs ys : List ℕ) → are_below n xs ≡ true → are_below n ys ≡ true → are_below n (xs ++ ys) ≡ true
below_joined n [] ys h k = k
below_joined n (x ∷ xs) ys h k =
    let parts = and_parts (nat_lt x n) (are_below n xs) h in
    and_from (nat_lt x n) (are_below n (xs ++ ys)) parts.0 (below_joined n xs ys parts.1 k)

module _ (code : PeCode) (b : Bounds) (fit : Fits code b) where
  -- ---- items from address c on

  abbrev AllFit : ℕ → List PeItem → Type 0
  AllFit c is = (a : ℕ) (i : PeItem) → slice_get is a ≡ Some i → InsnFits code b (c + a) i.depth i.insn

  first_fits : (c : ℕ) (i : PeItem) (is : List PeItem) → AllFit c (i ∷ is) → InsnFits code b c i.depth i.insn
  first_fits c i is each = let here : c + 0 ≡ c = omega arith in subst (λ n. InsnFits code b n i.depth i.insn) here (each 0 i refl)

  others_fit : (c : ℕ) (i : PeItem) (is : List PeItem) → AllFit c (i ∷ is) → AllFit (suc c) is
  others_fit c i is each a j h = let there : c + suc a ≡ suc c + a = omega arith in subst (λ n. InsnFits code b n j.depth j.insn) there (each (suc a) j h)

  items_fine : (c : ℕ) (is : List PeItem) → AllFit c is → are_disciplined b (item_blocks code c is) ≡ true
  items_fine c [] each = refl
  items_fine c (i ∷ is) each =
      joined b (blocks_of code c i.depth i.insn) (item_blocks code (suc c) is)
      (blocks_fine code b fit c i.depth i.insn (first_fits c i is each))
      (items_fine (suc c) is (others_fit c i is each))

  items_lead : (c : ℕ) (is : List PeItem) → AllFit c is → are_below b.blocks (item_entries code c is) ≡ true
  items_lead c [] each = refl
  items_lead c (i ∷ is) each =
      below_joined b.blocks (entries_of code c i.depth i.insn) (item_entries code (suc c) is)
      (entries_fine code b fit c i.depth i.insn (first_fits c i is each))
      (items_lead (suc c) is (others_fit c i is each))

  -- ---- what every program has

  first_fine : IsLabel b (label_of code 0) → are_disciplined b (take 10 (own_blocks code)) ≡ true
  first_fine start =
      simp (
        start,
        low code b fit meet (omega arith),
        low code b fit pop_label (omega arith),
        low code b fit put_int (omega arith),
        low code b fit put_true (omega arith),
        low code b fit put_false (omega arith),
      )

  -- an index is entered
  index_fine : (entry : ℕ) (o : Option ℕ) → IsWord (entry_word entry) → ForSome o (λ s. (nat_le 1 b.table_words ≡ true) × IsWord (row_address code s)) → is_disciplined_from b zeros (index_block code entry o) ≡ true
  index_fine entry None word row = simp (low code b fit meet (omega arith))
  index_fine entry (Some s) word row = let found = row s refl in simp (low code b fit no_room_label (omega arith), word, found.0, found.1)

  -- the blocks of sequences before those
  cells_fine : are_disciplined b (take 9 (sequence_blocks code)) ≡ true
  cells_fine =
      simp (
        low code b fit no_count_label (omega arith),
        low code b fit fill_label (omega arith),
        low code b fit filled_label (omega arith),
        low code b fit exhausted (omega arith),
        low code b fit outside_label (omega arith),
        low code b fit meet (omega arith),
        low code b fit leave_label (omega arith),
      )

  sequences_fine : are_disciplined b (sequence_blocks code) ≡ true
  sequences_fine =
      let read : List Micro = index_block code (element_entry false) code.sequences.value in
      let write : List Micro = index_block code (element_entry true) code.sequences.value in
      joined b (take 9 (sequence_blocks code)) (read ∷ write ∷ []) cells_fine
      (and_from (is_disciplined_from b zeros read) (are_disciplined b (write ∷ [])) (index_fine (element_entry false) code.sequences.value refl fit.indexed)
      (and_from (is_disciplined_from b zeros write) true (index_fine (element_entry true) code.sequences.value refl fit.indexed) refl))

  own_fine : IsLabel b (label_of code 0) → are_disciplined b (own_blocks code) ≡ true
  own_fine start = joined b (take 10 (own_blocks code)) (sequence_blocks code) (first_fine start) sequences_fine

  fixed_lead : are_below b.blocks fixed_entries ≡ true
  fixed_lead =
      simp (
        low code b fit start_label (omega arith),
        low code b fit end_label (omega arith),
        low code b fit datum_label (omega arith),
        low code b fit read_label (omega arith),
        low code b fit write_label (omega arith),
        low code b fit leave_label (omega arith),
        low code b fit pop_label (omega arith),
        low code b fit put_int_label (omega arith),
        low code b fit put_char_label (omega arith),
        low code b fit put_bool_label (omega arith),
        low code b fit read_element_label (omega arith),
        low code b fit write_element_label (omega arith),
        low code b fit length_label (omega arith),
        low code b fit index_read_label (omega arith),
        low code b fit index_write_label (omega arith),
      )

each_fits : (code : PeCode) (ok : IsSelectable code) → AllFit code (bounds code) (fits code ok) 0 code.items
each_fits code ok a i h = let here : a ≡ 0 + a = omega arith in subst (λ n. InsnFits code (bounds code) n i.depth i.insn) here (insn_fits code ok a i h)

module _ (routines : RoutinesAreDisciplined) (operators : OperatorsAreDisciplined) where
  blocks_are : (code : PeCode) → IsSelectable code → are_disciplined (bounds code) (word_code code).blocks ≡ true
  blocks_are code ok =
      let b = bounds code in
      let fit = fits code ok in
      let fixed = fit.fixed in
      let items = item_blocks code 0 code.items in
      let own = own_blocks code ++ items in
      let work = operator_blocks first_operator meet ++ own in
      joined b caller_blocks (routine_blocks ++ work) refl
      (joined b routine_blocks work (routines b (omega arith))
      (joined b (operator_blocks first_operator meet) own (operators b first_operator meet (omega arith) (omega arith))
      (joined b (own_blocks code) items (own_fine code b fit (led_label code ok 0 0 ok.valid.program))
      (items_fine code b fit 0 code.items (each_fits code ok)))))

  entries_lead : (code : PeCode) → IsSelectable code → are_below (length (word_code code).blocks) (word_code code).entries ≡ true
  entries_lead code ok =
      below_joined (length (word_code code).blocks) fixed_entries (item_entries code 0 code.items) (fixed_lead code (bounds code) (fits code ok))
      (items_lead code (bounds code) (fits code ok) 0 code.items (each_fits code ok))

  pub disciplined : SelectionIsDisciplined
  disciplined code ok = and_from _ _ (blocks_are code ok) (and_from _ _ (entries_lead code ok) (le-leb 1 (length (word_code code).entries) (omega arith)))
