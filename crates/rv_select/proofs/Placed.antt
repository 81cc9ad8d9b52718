-- The code that is selected has the blocks, entries, words of the table and places that its labels and numbers say.
use Rattle.std.proofs.Common.{◌≡◌, ℕ, zero, suc, ◌+◌, ◌*◌, ◌<◌, ◌≤◌, List, [], ◌∷◌, ◌++◌, length, take, Some, None, refl, ap, ◌∙◌, arith, length-append, mul-le-mul_right}
use Rattle.std.proofs.lemmas.Option.{same_Some, slice_get-map}
use Rattle.std.proofs.lemmas.List.{get_or_append_left, get_or-append-add, length-map}
use Rattle.std.specs.Prelude.{slice_get, slice_index, slice_index_or}
use Rattle.std.specs.Option.{option_map}
use Rattle.fy_base.specs.declared.data.UnOp.{UnOp}
use Rattle.fy_base.specs.declared.data.UnOp.TheVariants.{Neg, Not, Ord, Chr}
use Rattle.fy_base.specs.declared.data.BinOp.{BinOp}
use Rattle.fy_base.specs.declared.data.BinOp.TheVariants.{Add, Sub, Mul, Div, Rem, And, Or}
use Rattle.pe_code.specs.declared.code.PeInsn.{PeInsn}
use Rattle.pe_code.specs.declared.code.PeInsn.TheVariants as insn
use Rattle.pe_code.specs.declared.code.Purpose.TheVariants as purpose
use Rattle.pe_code.specs.declared.code.PeItem.{PeItem}
use Rattle.pe_code.specs.declared.code.PeCode.{PeCode}
use Rattle.pe_code.specs.Code.{item_at, entry_of, picked_from}
use Rattle.pe_code.specs.Valid.{IsValid, all_picked_from}
use Rattle.rv_word.specs.declared.micros.Micro.{Micro}
use Rattle.rv_word.specs.Word.{block}
use Rattle.rv_runtime.specs.Routines.{routine_blocks}
use Rattle.rv_operators.specs.Operators.{operator_blocks}
use Rattle.rv_select.specs.Numbers.{meet, first_operator, fixed_entries, block_count, entry_count, blocks_in, entries_in, label_of, entry_number, row_words}
use Rattle.rv_select.specs.Blocks.{main_block, blocks_of, entries_of, caller_blocks, own_blocks}
use Rattle.rv_select.specs.Program.{item_blocks, item_entries, node_word, row, rows, word_code}
use Rattle.rv_select.proofs.SelectedCode.{IsEntry, IsSelected}

-- ---- how many an instruction has

unary_blocks : (code : PeCode) (a d x : ℕ) (op : UnOp) → length (blocks_of code a d (insn.Op1 op x)) ≡ block_count (insn.Op1 op x)
unary_blocks code a d x Neg = refl
unary_blocks code a d x Not = refl
unary_blocks code a d x Ord = refl
unary_blocks code a d x Chr = refl

binary_blocks : (code : PeCode) (a d x y : ℕ) (op : BinOp) → length (blocks_of code a d (insn.Op2 op x y)) ≡ block_count (insn.Op2 op x y)
binary_blocks code a d x y Add = refl
binary_blocks code a d x y Sub = refl
binary_blocks code a d x y Mul = refl
binary_blocks code a d x y Div = refl
binary_blocks code a d x y Rem = refl
binary_blocks code a d x y op = refl

pub blocks_length : (code : PeCode) (a d : ℕ) (i : PeInsn) → length (blocks_of code a d i) ≡ block_count i
blocks_length code a d (insn.Op1 op x) = unary_blocks code a d x op
blocks_length code a d (insn.Op2 op x y) = binary_blocks code a d x y op
blocks_length code a d (insn.EvalFor ss (purpose.Repeat x)) = refl
blocks_length code a d (insn.EvalFor ss u) = refl
blocks_length code a d i = refl

unary_entries_length : (code : PeCode) (a d x : ℕ) (op : UnOp) → length (entries_of code a d (insn.Op1 op x)) ≡ entry_count (insn.Op1 op x)
unary_entries_length code a d x Neg = refl
unary_entries_length code a d x Not = refl
unary_entries_length code a d x Ord = refl
unary_entries_length code a d x Chr = refl

binary_entries_length : (code : PeCode) (a d x y : ℕ) (op : BinOp) → length (entries_of code a d (insn.Op2 op x y)) ≡ entry_count (insn.Op2 op x y)
binary_entries_length code a d x y And = refl
binary_entries_length code a d x y Or = refl
binary_entries_length code a d x y Div = refl
binary_entries_length code a d x y op = refl

pub entries_length : (code : PeCode) (a d : ℕ) (i : PeInsn) → length (entries_of code a d i) ≡ entry_count i
entries_length code a d (insn.Op1 op x) = unary_entries_length code a d x op
entries_length code a d (insn.Op2 op x y) = binary_entries_length code a d x y op
entries_length code a d (insn.EvalFor ss (purpose.Repeat x)) = refl
entries_length code a d (insn.EvalFor ss u) = refl
entries_length code a d (insn.Case x ys) = let parts = length-map ys (label_of code) in omega arith
entries_length code a d i = refl

first_block : (code : PeCode) (a d : ℕ) (i : PeInsn) → slice_index_or (blocks_of code a d i) 0 [] ≡ main_block code a d i
first_block code a d (insn.Op1 op x) = refl
first_block code a d (insn.EvalFor ss (purpose.Repeat x)) = refl
first_block code a d (insn.EvalFor ss u) = refl
first_block code a d i = refl

pub some_blocks : (i : PeInsn) → 0 < block_count i
some_blocks (insn.Op1 op x) = omega arith
some_blocks (insn.Op2 op x y) = omega arith
some_blocks (insn.EvalFor ss (purpose.Repeat x)) = omega arith
some_blocks (insn.EvalFor ss u) = omega arith
some_blocks i = omega arith

first_entry_is : (code : PeCode) (a d : ℕ) (i : PeInsn) → slice_index (entries_of code a d i) 0 ≡ label_of code a
first_entry_is code a d (insn.Op1 op x) = let e : label_of code a + 0 ≡ label_of code a = omega arith in e
first_entry_is code a d (insn.EvalFor ss (purpose.Repeat x)) = let e : label_of code a + 0 ≡ label_of code a = omega arith in e
first_entry_is code a d (insn.EvalFor ss u) = let e : label_of code a + 0 ≡ label_of code a = omega arith in e
first_entry_is code a d i = let e : label_of code a + 0 ≡ label_of code a = omega arith in e

some_entries : (i : PeInsn) → 0 < entry_count i
some_entries (insn.Op1 op x) = omega arith
some_entries (insn.Op2 op x y) = omega arith
some_entries (insn.Case x ys) = omega arith
some_entries (insn.EvalFor ss (purpose.Repeat x)) = omega arith
some_entries (insn.EvalFor ss u) = omega arith
some_entries i = omega arith

-- ---- where they stand

item_block : (code : PeCode) (is : List PeItem) (b a k : ℕ) (i : PeItem) → slice_get is a ≡ Some i → k < block_count i.insn
    → slice_index_or (item_blocks code b is) (blocks_in (take a is) + k) [] ≡ slice_index_or (blocks_of code (b + a) i.depth i.insn) k []
item_block code [] b a k i h lt = absurd (cc)
item_block code (j ∷ is) b zero k i h lt =
    let none : 0 + k ≡ k = omega arith in
    let here : b ≡ b + 0 = omega arith in
    let size = blocks_length code b i.depth i.insn in
    ap (λ (z : PeItem). slice_index_or (blocks_of code b z.depth z.insn ++ item_blocks code (suc b) is) (0 + k) []) (same_Some j i h)
    ∙ ap (λ n. slice_index_or (blocks_of code b i.depth i.insn ++ item_blocks code (suc b) is) n []) none
    ∙ get_or_append_left (blocks_of code b i.depth i.insn) (item_blocks code (suc b) is) [] k (omega arith)
    ∙ ap (λ n. slice_index_or (blocks_of code n i.depth i.insn) k []) here
item_block code (j ∷ is) b (suc a) k i h lt =
    let size = blocks_length code b j.depth j.insn in
    let at : block_count j.insn + blocks_in (take a is) + k ≡ length (blocks_of code b j.depth j.insn) + (blocks_in (take a is) + k) = omega arith in
    let there : suc b + a ≡ b + suc a = omega arith in
    ap (λ n. slice_index_or (blocks_of code b j.depth j.insn ++ item_blocks code (suc b) is) n []) at
    ∙ get_or-append-add (blocks_of code b j.depth j.insn) (item_blocks code (suc b) is) (blocks_in (take a is) + k) []
    ∙ item_block code is (suc b) a k i h lt
    ∙ ap (λ n. slice_index_or (blocks_of code n i.depth i.insn) k []) there

item_entry : (code : PeCode) (is : List PeItem) (b a k : ℕ) (i : PeItem) → slice_get is a ≡ Some i → k < entry_count i.insn
    → slice_index (item_entries code b is) (entries_in (take a is) + k) ≡ slice_index (entries_of code (b + a) i.depth i.insn) k
item_entry code [] b a k i h lt = absurd (cc)
item_entry code (j ∷ is) b zero k i h lt =
    let none : 0 + k ≡ k = omega arith in
    let here : b ≡ b + 0 = omega arith in
    let size = entries_length code b i.depth i.insn in
    ap (λ (z : PeItem). slice_index (entries_of code b z.depth z.insn ++ item_entries code (suc b) is) (0 + k)) (same_Some j i h)
    ∙ ap (λ n. slice_index (entries_of code b i.depth i.insn ++ item_entries code (suc b) is) n) none
    ∙ get_or_append_left (entries_of code b i.depth i.insn) (item_entries code (suc b) is) 0 k (omega arith)
    ∙ ap (λ n. slice_index (entries_of code n i.depth i.insn) k) here
item_entry code (j ∷ is) b (suc a) k i h lt =
    let size = entries_length code b j.depth j.insn in
    let at : entry_count j.insn + entries_in (take a is) + k ≡ length (entries_of code b j.depth j.insn) + (entries_in (take a is) + k) = omega arith in
    let there : suc b + a ≡ b + suc a = omega arith in
    ap (λ n. slice_index (entries_of code b j.depth j.insn ++ item_entries code (suc b) is) n) at
    ∙ get_or-append-add (entries_of code b j.depth j.insn) (item_entries code (suc b) is) (entries_in (take a is) + k) 0
    ∙ item_entry code is (suc b) a k i h lt
    ∙ ap (λ n. slice_index (entries_of code n i.depth i.insn) k) there

-- ---- how many there are

pub entries_total : (code : PeCode) (b : ℕ) (is : List PeItem) → length (item_entries code b is) ≡ entries_in is
entries_total code b [] = refl
entries_total code b (i ∷ is) =
    let rest = entries_total code (suc b) is in
    let here = entries_length code b i.depth i.insn in
    let all = length-append (entries_of code b i.depth i.insn) (item_entries code (suc b) is) in
    omega arith

entry_inside : (is : List PeItem) (a k : ℕ) (i : PeItem) → slice_get is a ≡ Some i → k < entry_count i.insn → entries_in (take a is) + k < entries_in is
entry_inside [] a k i h lt = absurd (cc)
entry_inside (j ∷ is) zero k i h lt = let same = ap (λ (z : PeItem). entry_count z.insn) (same_Some j i h) in omega arith
entry_inside (j ∷ is) (suc a) k i h lt = let rest = entry_inside is a k i h lt in omega arith

unary_entries_few : (op : UnOp) (x : ℕ) → entry_count (insn.Op1 op x) ≤ 5
unary_entries_few Neg x = omega arith
unary_entries_few Not x = omega arith
unary_entries_few Ord x = omega arith
unary_entries_few Chr x = omega arith

binary_entries_few : (op : BinOp) (x y : ℕ) → entry_count (insn.Op2 op x y) ≤ 5
binary_entries_few And x y = omega arith
binary_entries_few Or x y = omega arith
binary_entries_few Div x y = omega arith
binary_entries_few op x y = omega arith

entry_count_few : (i : PeInsn) → entry_count i ≤ 5 + length (picked_from i)
entry_count_few (insn.Op1 op x) = let few = unary_entries_few op x in omega arith
entry_count_few (insn.Op2 op x y) = let few = binary_entries_few op x y in omega arith
entry_count_few (insn.Case x ys) = omega arith
entry_count_few (insn.EvalFor ss (purpose.Repeat x)) = omega arith
entry_count_few (insn.EvalFor ss u) = omega arith
entry_count_few i = omega arith

pub entries_few : (is : List PeItem) → entries_in is ≤ 5 * length is + all_picked_from is
entries_few [] = omega arith
entries_few (i ∷ is) = let rest = entries_few is in let here = entry_count_few i.insn in omega arith

-- the number of entries
pub few_entries : (code : PeCode) → IsValid code → length (word_code code).entries ≤ 15 + 6 * length code.items
few_entries code valid =
    let total = entries_total code 0 code.items in
    let few = entries_few code.items in
    let parts = valid.parts in
    let all = length-append fixed_entries (item_entries code 0 code.items) in
    omega arith

-- ---- the table

row_length : (code : PeCode) (shape : ℕ) → length (row code shape) ≡ row_words code
row_length code shape = let nodes = length-map code.thunks (λ node. node_word code (entry_of code node shape)) in omega arith

pub rows_length : (code : PeCode) (n shape : ℕ) → length (rows code shape n) ≡ n * row_words code
rows_length code zero shape = omega arith
rows_length code (suc n) shape =
    let here = row_length code shape in
    let rest = rows_length code n (suc shape) in
    let all = length-append (row code shape) (rows code (suc shape) n) in
    omega arith

row_word : (code : PeCode) (n s k c : ℕ) → k < n → c < row_words code → slice_index (rows code s n) (k * row_words code + c) ≡ slice_index (row code (s + k)) c
row_word code zero s k c lt inside = absurd (omega arith)
row_word code (suc n) s zero c lt inside =
    let at : zero * row_words code + c ≡ c = omega arith in
    let here : s ≡ s + 0 = omega arith in
    let size = row_length code s in
    ap (λ j. slice_index (row code s ++ rows code (suc s) n) j) at
    ∙ get_or_append_left (row code s) (rows code (suc s) n) 0 c (omega arith)
    ∙ ap (λ j. slice_index (row code j) c) here
row_word code (suc n) s (suc k) c lt inside =
    let size = row_length code s in
    let at : suc k * row_words code + c ≡ length (row code s) + (k * row_words code + c) = omega arith in
    let there : suc s + k ≡ s + suc k = omega arith in
    ap (λ j. slice_index (row code s ++ rows code (suc s) n) j) at
    ∙ get_or-append-add (row code s) (rows code (suc s) n) (k * row_words code + c) 0
    ∙ row_word code n (suc s) k c (omega arith) inside
    ∙ ap (λ j. slice_index (row code j) c) there

pub row_inside : (code : PeCode) (shape c : ℕ) → shape < code.shapes → c < row_words code → shape * row_words code + c < code.shapes * row_words code
row_inside code shape c lt inside = let whole = mul-le-mul_right (row_words code) lt in omega arith

-- ---- all of it

module _ (code : PeCode) (valid : IsValid code) where
  -- the blocks before those of selection, and before those of items
  abbrev routines_before : List (List Micro)
  routines_before = caller_blocks ++ routine_blocks

  abbrev own_before : List (List Micro)
  own_before = caller_blocks ++ (routine_blocks ++ operator_blocks first_operator meet)

  abbrev items_before : List (List Micro)
  items_before = caller_blocks ++ (routine_blocks ++ (operator_blocks first_operator meet ++ own_blocks code))

  further_is : (a : ℕ) (i : PeItem) (k : ℕ) → item_at code a ≡ Some i → k < block_count i.insn → block (word_code code) (label_of code a + k) ≡ slice_index_or (blocks_of code a i.depth i.insn) k []
  further_is a i k h lt =
      let at : label_of code a + k ≡ length items_before + (blocks_in (take a code.items) + k) = omega arith in
      let here : 0 + a ≡ a = omega arith in
      ap (λ n. block (word_code code) n) at
      ∙ get_or-append-add items_before (item_blocks code 0 code.items) (blocks_in (take a code.items) + k) []
      ∙ item_block code code.items 0 a k i h lt
      ∙ ap (λ n. slice_index_or (blocks_of code n i.depth i.insn) k []) here

  entry_is : (a : ℕ) (i : PeItem) (k : ℕ) → item_at code a ≡ Some i → k < entry_count i.insn → IsEntry (word_code code) (entry_number code a + k) (slice_index (entries_of code a i.depth i.insn) k)
  entry_is a i k h lt =
      let at : entry_number code a + k ≡ length fixed_entries + (entries_in (take a code.items) + k) = omega arith in
      let here : 0 + a ≡ a = omega arith in
      let total = entries_total code 0 code.items in
      let inside = entry_inside code.items a k i h lt in
      let all = length-append fixed_entries (item_entries code 0 code.items) in
      record {
        inside = omega arith;
        leads = ap (λ n. slice_index (word_code code).entries n) at
            ∙ get_or-append-add fixed_entries (item_entries code 0 code.items) (entries_in (take a code.items) + k) 0
            ∙ item_entry code code.items 0 a k i h lt
            ∙ ap (λ n. slice_index (entries_of code n i.depth i.insn) k) here;
      }

  pub selected : IsSelected code (word_code code)
  selected = record {
    callers = λ k lt. get_or_append_left caller_blocks (routine_blocks ++ (operator_blocks first_operator meet ++ (own_blocks code ++ item_blocks code 0 code.items))) [] k lt;
    own = λ k lt.
        get_or-append-add own_before (own_blocks code ++ item_blocks code 0 code.items) k []
        ∙ get_or_append_left (own_blocks code) (item_blocks code 0 code.items) [] k lt;
    main = λ a i h.
        let none : label_of code a ≡ label_of code a + 0 = omega arith in
        ap (λ n. block (word_code code) n) none ∙ further_is a i 0 h (some_blocks i.insn) ∙ first_block code a i.depth i.insn;
    further = further_is;
    fixed = λ k lt. record {
      inside = (let all = length-append fixed_entries (item_entries code 0 code.items) in omega arith);
      leads = get_or_append_left fixed_entries (item_entries code 0 code.items) 0 k lt;
    };
    first_entry = λ a i h.
        let none : entry_number code a ≡ entry_number code a + 0 = omega arith in
        let e = entry_is a i 0 h (some_entries i.insn) in
        let inside = e.inside in
        record { inside = omega arith; leads = ap (λ n. slice_index (word_code code).entries n) none ∙ e.leads ∙ first_entry_is code a i.depth i.insn };
    entries = entry_is;
    rows = λ shape k lt inside.
        let size = rows_length code code.shapes 0 in
        let within = row_inside code shape k lt inside in
        let here : 0 + shape ≡ shape = omega arith in
        record { inside = omega arith; value = row_word code code.shapes 0 shape k lt inside ∙ ap (λ s. slice_index (row code s) k) here };
    few_rows = (let size = rows_length code code.shapes 0 in let few = valid.words in omega arith);
    indexed = valid.asked 1 None (omega arith);
    places = λ a i h. slice_get-map (λ (j : PeItem). j.place) code.items a ∙ ap (option_map (λ (j : PeItem). j.place)) h;
    routines = record {
      meet_block = slice_index_or caller_blocks 0 [];
      go_block = slice_index_or caller_blocks 1 [];
      others = operator_blocks first_operator meet ++ (own_blocks code ++ item_blocks code 0 code.items);
      are = refl;
    };
    operators = record {
      blocks = λ k lt.
          get_or-append-add routines_before (operator_blocks first_operator meet ++ (own_blocks code ++ item_blocks code 0 code.items)) k []
          ∙ get_or_append_left (operator_blocks first_operator meet) (own_blocks code ++ item_blocks code 0 code.items) [] k lt;
      entries = (let few = few_entries code valid in let items = valid.few in omega arith);
    };
  }
