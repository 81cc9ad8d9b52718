-- Code has no more words than its blocks take, and two for each entry.
use Rattle.std.proofs.Common.{◌≡◌, ◌⊎◌, ℕ, suc, ◌+◌, ◌*◌, ◌^◌, ◌<◌, ◌≤◌, ℤ, pos, Bool, true, false, nat_lt, nat_le, if◌then◌else◌, List, [], ◌∷◌, ◌++◌, length, arith, refl, sym, ap, ◌∙◌, subst, inl, inr, length-append}
use Rattle.std.specs.Int.{cast_signed, w64}
use Rattle.std.proofs.lemmas.Bool.{ltb-true, ltb-false, lt-ltb}
use Rattle.std.proofs.lemmas.Int.{to_z_pos}
use Rattle.rv_insn.specs.declared.instructions.BranchOp.{BranchOp}
use Rattle.rv_insn.specs.declared.instructions.BranchOp.TheVariants.{Bltu}
use Rattle.rv_insn.specs.declared.instructions.Insn.{Insn}
use Rattle.rv_asm.specs.declared.items.Item.{Item}
use Rattle.rv_asm.specs.declared.items.Item.TheVariants.{Mark, Plain, BranchTo, JumpTo, FarTo, CallTo, AddressOf, Constant}
use Rattle.rv_asm.specs.declared.items.LabelAt.{LabelAt}
use Rattle.rv_asm.specs.declared.items.Assembled.{Assembled}
use Rattle.rv_asm.specs.Items.{named_by}
use Rattle.rv_asm.specs.Forms.{IsFormOf, IsFarBranch, IsNearJump, IsFar, has_bits, constant_words}
use Rattle.rv_asm.specs.Assembly.{joined, address_of, target_in, IsAssembly}
use Rattle.rv_word.specs.declared.micros.Register.{Register}
use Rattle.rv_word.specs.declared.micros.Register.TheVariants as register
use Rattle.rv_word.specs.declared.micros.Micro.{Micro}
use Rattle.rv_word.specs.declared.micros.Micro.TheVariants.{Set, Window, Room}
use Rattle.rv_word.specs.Word.{Code}
use Rattle.rv_word.specs.Costs.{set_cost, micro_words, block_words}
use Rattle.rv_flow.specs.Lowering.{number_of, items_of}
use Rattle.rv_flow.specs.Laws.{blocks_words}
use Rattle.rv_flow.proofs.Parts.{Part, stays, branch, items_in, room_parts, window_by, parts_of, micros_parts, blocks_parts, entry_parts, parts_in, items_append, code_is}
use Rattle.rv_flow.proofs.Chosen.{AreForms, forms_from}
use Rattle.rv_flow.proofs.Guarded.{each_form, read_size}

-- how many words an item has at most
abbrev item_words : Item → ℕ
item_words (Mark label) = 0
item_words (Plain i) = 1
item_words (BranchTo op rs1 rs2 label) = 3
item_words (Constant rd value) = constant_words value
item_words _ = 2

abbrev items_words : List Item → ℕ
items_words [] = 0
items_words (item ∷ items) = item_words item + items_words items

branch_short : {near far : Type 0} (form : List Insn) → near ⊎ far → (near → length form ≡ 1) → (far → length form ≡ 3) → length form ≤ 3
branch_short form (inl h) f g = let e : length form ≡ 1 = f h in omega (arith, e)
branch_short form (inr h) f g = let e : length form ≡ 3 = g h in omega (arith, e)

far_short : (rd here to : ℕ) (form : List Insn) → IsFar rd here to form → length form ≡ 2
far_short rd here to form h = ap length h.is

far_branch_short : (op : BranchOp) (rs1 rs2 here to : ℕ) (form : List Insn) → IsFarBranch op rs1 rs2 here to form → length form ≡ 3
far_branch_short op rs1 rs2 here to form h = ap length h.is ∙ ap suc (far_short 0 (here + 4) to h.jump h.far)

jump_short : (rd here to : ℕ) (form : List Insn) → IsNearJump rd here to form ⊎ IsFar rd here to form → length form ≤ 2
jump_short rd here to form (inl h) = let e : length form ≡ 1 = ap length h.is in omega (arith, e)
jump_short rd here to form (inr h) = let e : length form ≡ 2 = far_short rd here to form h in omega (arith, e)

form_short : (item : Item) (here to : ℕ) (form : List Insn) → IsFormOf item here to form → length form ≤ item_words item
form_short (Mark label) here to form h = let e : length form ≡ 0 = ap length h in omega (arith, e)
form_short (Plain i) here to form h = let e : length form ≡ 1 = ap length h in omega (arith, e)
form_short (BranchTo op rs1 rs2 label) here to form h = branch_short form h (λ near. ap length near.is) (far_branch_short op rs1 rs2 here to form)
form_short (JumpTo label) here to form h = jump_short 0 here to form h
form_short (FarTo label) here to form h = let e : length form ≡ 2 = far_short 0 here to form h in omega (arith, e)
form_short (CallTo rd label) here to form h = jump_short rd here to form h
form_short (AddressOf rd label) here to form h = let e : length form ≡ 2 = ap length h.is in omega (arith, e)
form_short (Constant rd value) here to form h = h.most

forms_short : (labels : List LabelAt) (k : ℕ) (items : List Item) (forms : List (List Insn)) → AreForms labels k items forms → length (joined forms) ≤ items_words items
forms_short labels k [] [] h = omega arith
forms_short labels k [] (form ∷ forms) h = absurd h
forms_short labels k (item ∷ items) [] h = absurd h
forms_short labels k (item ∷ items) (form ∷ forms) h =
    let one : length form ≤ item_words item = form_short item (address_of k) (target_in labels (named_by item)) form h.0 in
    let rest : length (joined forms) ≤ items_words items = forms_short labels (k + length form) items forms h.1 in
    omega (arith, one, rest, length-append form (joined forms))

-- ---- constants

most_constant : (value : ℤ) → constant_words value ≤ 8
most_constant value = elim (has_bits 12 value) as (λ b. (if b then 1 else (if has_bits 32 value then 2 else 8)) ≤ 8) [
  | true ↦ omega arith
  | false ↦ elim (has_bits 32 value) as (λ b. (if b then 2 else 8) ≤ 8) [ true ↦ omega arith | false ↦ omega arith ]
]

small_constant : (v : ℕ) → v < 2 ^ 31 → constant_words (pos v) ≤ (if nat_lt v (2 ^ 11) then 1 else 2)
small_constant v h =
    let wide : nat_lt v (2 ^ 31) ≡ true = lt-ltb v (2 ^ 31) h in
    let P : Bool → Type 0 = λ w. (if nat_lt v (2 ^ 11) then 1 else (if w then 2 else 8)) ≤ (if nat_lt v (2 ^ 11) then 1 else 2) in
    subst P (sym wide) (elim (nat_lt v (2 ^ 11)) as (λ b. (if b then 1 else 2) ≤ (if b then 1 else 2)) [ true ↦ omega arith | false ↦ omega arith ])

constant_short : (v : ℕ) → constant_words (cast_signed w64 v) ≤ set_cost v
constant_short v =
    let P : Bool → Type 0 = λ b. nat_lt v (2 ^ 31) ≡ b → constant_words (cast_signed w64 v) ≤ (if nat_lt v (2 ^ 11) then 1 else (if b then 2 else 8)) in
    elim (nat_lt v (2 ^ 31)) as P [
      | true ↦ λ e.
          let below : v < 2 ^ 31 = ltb-true v (2 ^ 31) e in
          let is : cast_signed w64 v ≡ pos v = to_z_pos w64 v (omega arith) in
          subst (λ (z : ℤ). constant_words z ≤ (if nat_lt v (2 ^ 11) then 1 else 2)) (sym is) (small_constant v below)
      | false ↦ λ e.
          let above : 2 ^ 31 ≤ v = ltb-false v (2 ^ 31) e in
          large v above (constant_words (cast_signed w64 v)) (most_constant (cast_signed w64 v))
    ] refl
  where
    large : (v : ℕ) → 2 ^ 31 ≤ v → (n : ℕ) → n ≤ 8 → n ≤ (if nat_lt v (2 ^ 11) then 1 else 8)
    large v h n k =
        let P : Bool → Type 0 = λ b. nat_lt v (2 ^ 11) ≡ b → n ≤ (if b then 1 else 8) in
        elim (nat_lt v (2 ^ 11)) as P [ true ↦ λ e. let below : v < 2 ^ 11 = ltb-true v (2 ^ 11) e in absurd (omega arith) | false ↦ λ e. k ] refl

-- ---- micro-operations

words_append : (xs ys : List Item) → items_words (xs ++ ys) ≡ items_words xs + items_words ys
words_append [] ys = omega arith
words_append (x ∷ xs) ys = let rest : items_words (xs ++ ys) ≡ items_words xs + items_words ys = words_append xs ys in omega (arith, rest)

parts_append : (xs ys : List Part) → items_words (items_in (xs ++ ys)) ≡ items_words (items_in xs) + items_words (items_in ys)
parts_append xs ys = ap items_words (items_append xs ys) ∙ words_append (items_in xs) (items_in ys)

room_short : (b : Bool) (n label : ℕ) → items_words (items_in (room_parts b n ++ branch Bltu 31 (number_of register.Top) label ∷ [])) ≤ (if b then 4 else 6)
room_short true n label = omega arith
room_short false n label = omega arith

window_short : (b : Bool) (r : Register) (k : ℕ) → items_words (items_in (stays (window_by b r k) ∷ [])) ≤ (if b then 5 else 8)
window_short true r k = omega arith
window_short false r k = omega arith

micro_short : (entries table_words : ℕ) (m : Micro) → items_words (items_in (parts_of entries table_words m)) ≤ micro_words m
micro_short entries table_words (Set r v) = let e : constant_words (cast_signed w64 v) ≤ set_cost v = constant_short v in omega (arith, e)
micro_short entries table_words (Window r k) = window_short (nat_le k 255) r k
micro_short entries table_words (Room n label) = room_short (nat_le n 255) n label
micro_short entries table_words m = omega arith

micros_short : (entries table_words : ℕ) (ms : List Micro) (rest : List Part) → items_words (items_in (micros_parts entries table_words ms rest)) ≤ block_words ms + items_words (items_in rest)
micros_short entries table_words [] rest = omega arith
micros_short entries table_words (m ∷ ms) rest =
    let xs : List Part = parts_of entries table_words m in
    let ys : List Part = micros_parts entries table_words ms rest in
    let e : items_words (items_in (xs ++ ys)) ≡ items_words (items_in xs) + items_words (items_in ys) = parts_append xs ys in
    let first : items_words (items_in xs) ≤ micro_words m = micro_short entries table_words m in
    let later : items_words (items_in ys) ≤ block_words ms + items_words (items_in rest) = micros_short entries table_words ms rest in
    omega (arith, e, first, later)

blocks_short : (entries table_words label : ℕ) (blocks : List (List Micro)) → items_words (items_in (blocks_parts entries table_words label blocks)) ≤ blocks_words blocks
blocks_short entries table_words label [] = omega arith
blocks_short entries table_words label (ms ∷ blocks) =
    let rest : List Part = blocks_parts entries table_words (suc label) blocks in
    let first : items_words (items_in (micros_parts entries table_words ms rest)) ≤ block_words ms + items_words (items_in rest) = micros_short entries table_words ms rest in
    let later : items_words (items_in rest) ≤ blocks_words blocks = blocks_short entries table_words (suc label) blocks in
    omega (arith, first, later)

entries_short : (labels : List ℕ) (rest : List Part) → items_words (items_in (entry_parts labels rest)) ≡ 2 * length labels + items_words (items_in rest)
entries_short [] rest = omega arith
entries_short (label ∷ labels) rest = let later : items_words (items_in (entry_parts labels rest)) ≡ 2 * length labels + items_words (items_in rest) = entries_short labels rest in omega (arith, later)

items_short : (code : Code) → items_words (items_of code) ≤ 2 * length code.entries + blocks_words code.blocks
items_short code =
    let rest : List Part = blocks_parts (length code.entries) (length code.table) 0 code.blocks in
    let is : items_words (items_in (parts_in code)) ≡ items_words (items_of code) = ap items_words (code_is code) in
    let first : items_words (items_in (parts_in code)) ≡ 2 * length code.entries + items_words (items_in rest) = entries_short code.entries rest in
    let later : items_words (items_in rest) ≤ blocks_words code.blocks = blocks_short (length code.entries) (length code.table) 0 code.blocks in
    omega (arith, is, first, later)

pub code_is_short : (code : Code) (assembled : Assembled) → IsAssembly (items_of code) assembled → length assembled.words ≤ 2 * length code.entries + blocks_words code.blocks
code_is_short code assembled a =
    let forms : AreForms assembled.labels 0 (items_of code) a.forms = forms_from assembled.labels 0 (items_of code) a.forms a.count (each_form (items_of code) assembled.labels a.forms a.each) in
    let size : length (joined a.forms) ≡ length assembled.words = read_size (joined a.forms) assembled.words a.words_are in
    let few : length (joined a.forms) ≤ items_words (items_of code) = forms_short assembled.labels 0 (items_of code) a.forms forms in
    let most : items_words (items_of code) ≤ 2 * length code.entries + blocks_words code.blocks = items_short code in
    omega (arith, size, few, most)
