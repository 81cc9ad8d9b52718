-- The numbers in the blocks of code that can be selected are what the discipline asks for.
use Rattle.std.proofs.Common.{◌≡◌, ℕ, zero, suc, ◌+◌, ◌*◌, ◌^◌, ◌<◌, ◌≤◌, true, List, [], ◌∷◌, length, take, Some, None, refl, ap, subst, arith, lt-ltb, length-append, mul-le-mul_right}
use Rattle.std.proofs.lemmas.Bool.{le-leb, cond_both}
use Rattle.std.proofs.lemmas.List.{length-map}
use Rattle.std.proofs.lemmas.Option.{same_Some, slice_get_within}
use Rattle.std.specs.Prelude.{slice_get, slice_index_or, nat_le, nat_eq}
use Rattle.std.specs.Option.{ForSome}
use Rattle.pe_code.specs.declared.code.PeInsn.{PeInsn}
use Rattle.pe_code.specs.declared.code.PeInsn.TheVariants as insn
use Rattle.pe_code.specs.declared.code.Purpose.TheVariants as purpose
use Rattle.pe_code.specs.declared.code.StraightPart.{StraightPart}
use Rattle.pe_code.specs.declared.code.StraightPart.TheVariants as part
use Rattle.pe_code.specs.declared.code.PeItem.{PeItem}
use Rattle.pe_code.specs.declared.code.PeCode.{PeCode}
use Rattle.pe_code.specs.Code.{item_at, beside, picked_from, straight_of}
use Rattle.pe_code.specs.Valid.{LeadsTo, IsSoundPart, IsSoundItem, IsValid, all_picked_from}
use Rattle.rv_word.specs.Discipline.{Bounds, bounds_of}
use Rattle.rv_operators.specs.Operators.{word_of}
use Rattle.rv_operators.specs.Laws.{IsDatum}
use Rattle.rv_straight.specs.Straight.{fault_blocks}
use Rattle.rv_straight.specs.Laws.{IsInRange, AreInRange, IsFine}
use Rattle.rv_select.specs.Numbers.{first_item, block_count, first_fault, blocks_in, entries_in, label_of, entry_number, row_words, column_word, place_in, column_of, row_address}
use Rattle.rv_select.specs.Blocks.{blocks_of}
use Rattle.rv_select.specs.Program.{item_blocks, word_code}
use Rattle.rv_select.specs.Laws.{value_of, IsSelectable}
use Rattle.rv_select.proofs.Reaching.{word_small}
use Rattle.rv_select.proofs.Placed.{blocks_length, some_blocks, entries_few, rows_length}
use Rattle.rv_select.proofs.Step.{all_found}
use Rattle.rv_select.proofs.PartDiscipline.{IsLabel, IsWord}
use Rattle.rv_select.proofs.BlockDiscipline.{Fits, InsnFits}
use Rattle.rv_select.proofs.BlockSizes.{IsSmall}

-- ---- labels

pub blocks_total : (code : PeCode) (a : ℕ) (is : List PeItem) → length (item_blocks code a is) ≡ blocks_in is
blocks_total code a [] = refl
blocks_total code a (i ∷ is) =
    let rest = blocks_total code (suc a) is in
    let here = blocks_length code a i.depth i.insn in
    let all = length-append (blocks_of code a i.depth i.insn) (item_blocks code (suc a) is) in
    omega arith

-- how many blocks there are
pub blocks_number : (code : PeCode) → length (word_code code).blocks ≡ first_item + blocks_in code.items
blocks_number code = let total = blocks_total code 0 code.items in omega arith

block_inside : (is : List PeItem) (a k : ℕ) (i : PeItem) → slice_get is a ≡ Some i → k < block_count i.insn → blocks_in (take a is) + k < blocks_in is
block_inside [] a k i h lt = absurd (cc)
block_inside (j ∷ is) zero k i h lt = let same = ap (λ (z : PeItem). block_count z.insn) (same_Some j i h) in omega arith
block_inside (j ∷ is) (suc a) k i h lt = let rest = block_inside is a k i h lt in omega arith

blocks_inside : (is : List PeItem) (a : ℕ) (i : PeItem) → slice_get is a ≡ Some i → blocks_in (take a is) + block_count i.insn ≤ blocks_in is
blocks_inside [] a i h = absurd (cc)
blocks_inside (j ∷ is) zero i h = let same = ap (λ (z : PeItem). block_count z.insn) (same_Some j i h) in omega arith
blocks_inside (j ∷ is) (suc a) i h = let rest = blocks_inside is a i h in omega arith

-- straight code has a block for each fault, the last ones of its item
faults_counted : (i : PeInsn) (ss : List StraightPart) → straight_of i ≡ Some ss → block_count i ≡ first_fault i + length (fault_blocks ss)
faults_counted (insn.Eval qs) ss e = let same = ap (λ (z : List StraightPart). length (fault_blocks z)) (same_Some qs ss e) in omega arith
faults_counted (insn.Set k qs) ss e = let same = ap (λ (z : List StraightPart). length (fault_blocks z)) (same_Some qs ss e) in omega arith
faults_counted (insn.EvalFor qs (purpose.Repeat x)) ss e = let same = ap (λ (z : List StraightPart). length (fault_blocks z)) (same_Some qs ss e) in omega arith
faults_counted (insn.EvalFor qs u) ss e = let same = ap (λ (z : List StraightPart). length (fault_blocks z)) (same_Some qs ss e) in omega arith
faults_counted i ss e = absurd cc

-- ---- other numbers

entries_before : (is : List PeItem) (a : ℕ) → entries_in (take a is) ≤ entries_in is
entries_before [] zero = omega arith
entries_before [] (suc a) = omega arith
entries_before (i ∷ is) zero = omega arith
entries_before (i ∷ is) (suc a) = let rest = entries_before is a in omega arith

pub entry_small : (code : PeCode) → IsValid code → (a : ℕ) → entry_number code a ≤ 2 ^ 20
entry_small code valid a =
    let before = entries_before code.items a in
    let few = entries_few code.items in
    let parts = valid.parts in
    let items = valid.few in
    omega arith

picked_inside : (is : List PeItem) (a : ℕ) (i : PeItem) → slice_get is a ≡ Some i → length (picked_from i.insn) ≤ all_picked_from is
picked_inside [] a i h = absurd (cc)
picked_inside (j ∷ is) zero i h = let same = ap (λ (z : PeItem). length (picked_from z.insn)) (same_Some j i h) in omega arith
picked_inside (j ∷ is) (suc a) i h = let rest = picked_inside is a i h in omega arith

place_few : (nodes : List ℕ) (node : ℕ) → place_in nodes node ≤ length nodes
place_few [] node = omega arith
place_few (n ∷ nodes) node = let rest = place_few nodes node in cond_both (nat_eq n node) 0 (suc (place_in nodes node)) (λ k. k ≤ suc (length nodes)) (λ e. omega arith) (λ e. omega arith)

column_small : (code : PeCode) → IsSelectable code → (node : ℕ) → column_word (column_of code node) < 2 ^ 64
column_small code ok node =
    let place = place_few code.thunks node in
    let few = ok.thunks in
    omega arith

row_within : (code : PeCode) → IsValid code → (shape : ℕ) → shape < code.shapes → suc shape * row_words code ≤ 1048576
row_within code valid shape lt =
    let whole = mul-le-mul_right (row_words code) lt in
    let few = valid.words in
    omega arith

-- ---- all of them

abbrev pub bounds : PeCode → Bounds
bounds code = bounds_of (word_code code)

module _ (code : PeCode) (ok : IsSelectable code) where
  label_fits : (a k : ℕ) (i : PeItem) → item_at code a ≡ Some i → k < block_count i.insn → IsLabel (bounds code) (label_of code a + k)
  label_fits a k i h lt =
      let within = block_inside code.items a k i h lt in
      let number = blocks_number code in
      lt-ltb (label_of code a + k) (length (word_code code).blocks) (omega arith)

  pub led_label : (depth a : ℕ) → LeadsTo code depth a → IsLabel (bounds code) (label_of code a)
  led_label depth a leads =
      let none : label_of code a + 0 ≡ label_of code a = omega arith in
      subst (IsLabel (bounds code)) none (label_fits a 0 leads.item leads.stands (some_blocks leads.item.insn))

  shape_fits : (shape : ℕ) → shape < code.shapes → (nat_le 1 (length (word_code code).table) ≡ true) × IsWord (row_address code shape)
  shape_fits shape lt =
      let within = row_within code ok.valid shape lt in
      let all = mul-le-mul_right (row_words code) lt in
      let size = rows_length code code.shapes 0 in
      (le-leb 1 (length (word_code code).table) (omega arith), lt-ltb (row_address code shape) (2 ^ 64) (omega arith))

  -- the shape at which an index is entered
  indexed : ForSome code.sequences.value (λ s. s < code.shapes)
  indexed = ok.valid.asked 1 None (omega arith)

  pub index_small : ForSome code.sequences.value (λ s. row_address code s < 2 ^ 31)
  index_small s e = let within = row_within code ok.valid s (indexed s e) in omega arith

  pub fits : Fits code (bounds code)
  fits = record {
    fixed = (let number = blocks_number code in omega arith);
    words = entry_small code ok.valid;
    columns = λ node. lt-ltb (column_word (column_of code node)) (2 ^ 64) (column_small code ok node);
    indexed = λ s e. shape_fits s (indexed s e);
  }

  item_place : (a : ℕ) (i : PeItem) → item_at code a ≡ Some i → a < length (word_code code).places
  item_place a i h = let within = slice_get_within code.items a i h in let size = length-map code.items (λ (j : PeItem). j.place) in omega arith

  sound_at : (a : ℕ) (i : PeItem) → item_at code a ≡ Some i → IsSoundItem code i
  sound_at a i h = all_found (λ j. IsSoundItem code j) code.items a i ok.valid.items h

  -- a part of straight code that is valid, whose literals are in range
  fine_part : (depth : ℕ) (s : StraightPart) → depth ≤ 512 → IsSoundPart code depth s → IsInRange s → IsFine (length (word_code code).places) s
  fine_part depth (part.Literal v) le sound range = range
  fine_part depth (part.Cell k) le sound range = omega arith
  fine_part depth (part.Unary op a) le sound range = item_place a sound.item sound.stands
  fine_part depth (part.Binary op a) le sound range = item_place a sound.item sound.stands

  -- its faults' labels are those of blocks
  blocks_within : (a : ℕ) (i : PeItem) → item_at code a ≡ Some i → label_of code a + block_count i.insn ≤ (bounds code).blocks
  blocks_within a i h =
      let all = blocks_inside code.items a i h in
      let number = blocks_number code in
      omega arith

  faults_fit : (a : ℕ) (i : PeItem) (ss : List StraightPart) → item_at code a ≡ Some i → straight_of i.insn ≡ Some ss → label_of code a + first_fault i.insn + length (fault_blocks ss) ≤ (bounds code).blocks
  faults_fit a i ss h e = let all = blocks_within a i h in let count = faults_counted i.insn ss e in omega arith

  pub insn_fits : (a : ℕ) (i : PeItem) → item_at code a ≡ Some i → InsnFits code (bounds code) a i.depth i.insn
  insn_fits a i h =
      let sound = sound_at a i h in
      record {
        deep = sound.depth;
        here = led_label i.depth a (record { item = i; stands = h; depth_is = refl });
        own = λ k lt. label_fits a k i h lt;
        place = lt-ltb a (length (word_code code).places) (item_place a i h);
        beside = λ k n lt. led_label i.depth (slice_index_or (beside i.insn) k n) (sound.beside_it k n lt);
        body = λ y e. led_label (i.depth + 1) y (sound.body y e);
        variable = λ k e. (let lt = sound.variable k e in let deep = sound.depth in omega arith);
        shape = λ s e. shape_fits s (sound.shape s e);
        parts = (let within = picked_inside code.items a i h in let parts = ok.valid.parts in let few = ok.valid.few in lt-ltb (length (picked_from i.insn)) (2 ^ 64) (omega arith));
        straight = λ ss e k n lt. fine_part i.depth (slice_index_or ss k n) sound.depth ((sound.straight ss e).parts k n lt) (all_found (λ j. ForSome (straight_of j.insn) AreInRange) code.items a i ok.straight h ss e k n lt);
        faults = λ ss e. faults_fit a i ss h e;
        value = λ v e. lt-ltb (word_of v) (2 ^ 64) (word_small v (all_found (λ j. ForSome (value_of j.insn) IsDatum) code.items a i ok.values h v e));
      }

  -- and what bounds its words
  pub small_at : (a : ℕ) (i : PeItem) → item_at code a ≡ Some i → IsSmall code i.depth i.insn
  small_at a i h =
      let sound = sound_at a i h in
      record {
        deep = sound.depth;
        entries = entry_small code ok.valid;
        shape = λ s e. (let within = row_within code ok.valid s (sound.shape s e) in omega arith);
        parts = (let within = picked_inside code.items a i h in let parts = ok.valid.parts in let few = ok.valid.few in omega arith);
      }
