-- How many items selected code has.
use Rattle.std.proofs.Common.{◌≡◌, ℕ, suc, ◌+◌, ◌*◌, ◌≤◌, Bool, true, false, List, [], ◌∷◌, ◌++◌, length, refl, arith, length-append}
use Rattle.std.proofs.lemmas.Bool.{cond_both}
use Rattle.std.proofs.lemmas.List.{length-map}
use Rattle.std.specs.Prelude.{nat_lt, nat_le, if◌then◌else◌}
use Rattle.fy_base.specs.declared.data.UnOp.{UnOp}
use Rattle.fy_base.specs.declared.data.UnOp.TheVariants.{Neg, Not, Ord, Chr}
use Rattle.fy_base.specs.declared.data.BinOp.{BinOp}
use Rattle.fy_base.specs.declared.data.BinOp.TheVariants.{Add, Sub, Mul, Div, Rem}
use Rattle.pe_code.specs.declared.code.PeInsn.{PeInsn}
use Rattle.pe_code.specs.declared.code.PeInsn.TheVariants as insn
use Rattle.pe_code.specs.declared.code.Purpose.TheVariants as purpose
use Rattle.pe_code.specs.declared.code.PeItem.{PeItem}
use Rattle.pe_code.specs.Valid.{parts_run_by, all_parts_run}
use Rattle.rv_asm.specs.declared.items.Item.{Item}
use Rattle.rv_asm.specs.declared.items.Item.TheVariants.{Plain, FarTo, BranchTo}
use Rattle.rv_insn.specs.declared.instructions.BranchOp.TheVariants.{Bltu}
use Rattle.rv_insn.specs.declared.instructions.Insn.{Insn}
use Rattle.rv_guard.specs.declared.pieces.Piece.{Piece}
use Rattle.rv_guard.specs.Patterns.{instructions_of}
use Rattle.rv_word.specs.declared.micros.Register.TheVariants.{Top}
use Rattle.rv_word.specs.declared.micros.Micro.{Micro}
use Rattle.rv_word.specs.declared.micros.Micro.TheVariants.{Set, Window, Room}
use Rattle.rv_word.specs.Costs.{set_cost, micro_words, block_words}
use Rattle.rv_word.specs.Word.{Code}
use Rattle.rv_flow.specs.Lowering.{number_of, plain, lowered, micro_items, block_items, blocks_items, entry_items, items_of}
use Rattle.rv_flow.specs.Laws.{blocks_words}
use Rattle.rv_select.specs.Numbers.{block_count, entry_count, blocks_in, entries_in}
use Rattle.rv_select.specs.Program.{word_code}
use Rattle.rv_straight.proofs.Sizes.{faults_few}
use Rattle.rv_select.specs.Sizes.{SelectionIsCounted}
use Rattle.rv_select.proofs.NumberingLemmas.{places_few}
use Rattle.rv_select.proofs.Placed.{entries_total, rows_length}
use Rattle.rv_select.proofs.Fitting.{blocks_number}
use Rattle.rv_select.proofs.Short.{words_few}

-- ---- no micro-operation becomes more items than words

set_some : (v : ℕ) → 1 ≤ set_cost v
set_some v =
    cond_both (nat_lt v 2048) 1 (if nat_lt v 2147483648 then 2 else 8) (λ n. 1 ≤ n) (λ e. omega arith)
    (λ e. cond_both (nat_lt v 2147483648) 2 8 (λ n. 1 ≤ n) (λ q. omega arith) (λ q. omega arith))

room_few : (b : Bool) (xs ys : List Insn) (item : Item) → length xs ≡ 1 → length ys ≡ 3 → length (plain (if b then xs else ys) ++ item ∷ []) ≤ (if b then 4 else 6)
room_few true xs ys item one three = omega (arith, length-append (plain xs) (item ∷ []), length-map xs (λ (i : Insn). Plain i))
room_few false xs ys item one three = omega (arith, length-append (plain ys) (item ∷ []), length-map ys (λ (i : Insn). Plain i))

window_few : (b : Bool) (p q : Piece) → length (instructions_of p) ≡ 5 → length (instructions_of q) ≡ 8 → length (plain (instructions_of (if b then p else q))) ≤ (if b then 5 else 8)
window_few true p q near far = omega (arith, length-map (instructions_of p) (λ (i : Insn). Plain i))
window_few false p q near far = omega (arith, length-map (instructions_of q) (λ (i : Insn). Plain i))

lowered_few : (entries table_words : ℕ) (m : Micro) → length (lowered entries table_words m) ≤ micro_words m
lowered_few entries table_words (Set r v) = let some = set_some v in omega arith
lowered_few entries table_words (Room k label) = room_few (nat_le k 255) _ _ (BranchTo Bltu 31 (number_of Top) label) refl refl
lowered_few entries table_words (Window r k) = window_few (nat_le k 255) _ _ refl refl
lowered_few entries table_words m = omega arith

micros_few : (entries table_words : ℕ) (ms : List Micro) → length (micro_items entries table_words ms) ≤ block_words ms
micros_few entries table_words [] = omega arith
micros_few entries table_words (m ∷ ms) =
    let first = lowered_few entries table_words m in
    let rest = micros_few entries table_words ms in
    omega (arith, length-append (lowered entries table_words m) (micro_items entries table_words ms))

-- a block has its label's mark besides
blocks_few : (entries table_words label : ℕ) (blocks : List (List Micro)) → length (blocks_items entries table_words label blocks) ≤ length blocks + blocks_words blocks
blocks_few entries table_words label [] = omega arith
blocks_few entries table_words label (ms ∷ blocks) =
    let first = micros_few entries table_words ms in
    let rest = blocks_few entries table_words (suc label) blocks in
    omega (arith, length-append (block_items entries table_words label ms) (blocks_items entries table_words (suc label) blocks))

items_few : (w : Code) → length (items_of w) ≤ length w.entries + (length w.blocks + blocks_words w.blocks)
items_few w =
    let rest = blocks_few (length w.entries) (length w.table) 0 w.blocks in
    omega (arith, length-append (entry_items w.entries) (blocks_items (length w.entries) (length w.table) 0 w.blocks), length-map w.entries (λ label. FarTo label))

-- ---- an item has at most one block more than entries, but for the faults of straight code

unary_blocks : (op : UnOp) (x : ℕ) → block_count (insn.Op1 op x) ≤ 1 + entry_count (insn.Op1 op x)
unary_blocks Neg x = omega arith
unary_blocks Not x = omega arith
unary_blocks Ord x = omega arith
unary_blocks Chr x = omega arith

binary_blocks : (op : BinOp) (x y : ℕ) → block_count (insn.Op2 op x y) ≤ 1 + entry_count (insn.Op2 op x y)
binary_blocks Add x y = omega arith
binary_blocks Sub x y = omega arith
binary_blocks Mul x y = omega arith
binary_blocks Div x y = omega arith
binary_blocks Rem x y = omega arith
binary_blocks op x y = omega arith

insn_blocks : (i : PeInsn) → block_count i ≤ 1 + entry_count i + 2 * parts_run_by i
insn_blocks (insn.Op1 op x) = let few = unary_blocks op x in omega arith
insn_blocks (insn.Op2 op x y) = let few = binary_blocks op x y in omega arith
insn_blocks (insn.Eval ss) = let faults = faults_few ss in omega arith
insn_blocks (insn.Set k ss) = let faults = faults_few ss in omega arith
insn_blocks (insn.EvalFor ss (purpose.Repeat x)) = let faults = faults_few ss in omega arith
insn_blocks (insn.EvalFor ss u) = let faults = faults_few ss in omega arith
insn_blocks i = omega arith

all_blocks : (is : List PeItem) → blocks_in is ≤ length is + entries_in is + 2 * all_parts_run is
all_blocks [] = omega arith
all_blocks (i ∷ is) = let here = insn_blocks i.insn in let rest = all_blocks is in omega arith

-- ---- all of it

pub counted : SelectionIsCounted
counted code ok = record {
  first = refl;
  items =
      let most = items_few (word_code code) in
      let words = words_few code ok in
      let blocks = blocks_number code in
      let entries = entries_total code 0 code.items in
      let more = all_blocks code.items in
      let few = ok.valid.few in
      let run = ok.valid.straight in
      let places = places_few code.items in
      omega arith;
  table = rows_length code code.shapes 0;
}
