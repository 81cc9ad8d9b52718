-- How many words the blocks of an item take, and its entries.
use Rattle.std.proofs.Common.{◌≡◌, ℕ, zero, suc, ◌+◌, ◌*◌, ◌^◌, ◌<◌, ◌≤◌, false, List, [], ◌∷◌, ◌++◌, length, Option, Some, None, refl, arith}
use Rattle.std.proofs.lemmas.Bool.{cond_both, ltb-false}
use Rattle.std.specs.Prelude.{nat_lt, nat_le, if◌then◌else◌}
use Rattle.std.specs.Option.{ForSome}
use Rattle.fy_base.specs.declared.data.UnOp.{UnOp}
use Rattle.fy_base.specs.declared.data.UnOp.TheVariants.{Neg, Not, Ord, Chr}
use Rattle.fy_base.specs.declared.data.BinOp.{BinOp}
use Rattle.fy_base.specs.declared.data.BinOp.TheVariants.{Div, And, Or}
use Rattle.fy_base.specs.declared.data.PutKind.{PutKind}
use Rattle.fy_base.specs.declared.data.PutKind.TheVariants as kind
use Rattle.pe_code.specs.declared.code.PeInsn.{PeInsn}
use Rattle.pe_code.specs.declared.code.PeInsn.TheVariants as insn
use Rattle.pe_code.specs.declared.code.Purpose.{Purpose}
use Rattle.pe_code.specs.declared.code.Purpose.TheVariants as purpose
use Rattle.pe_code.specs.declared.code.PeCode.{PeCode}
use Rattle.pe_code.specs.Code.{shape_of, picked_from}
use Rattle.pe_code.specs.Valid.{parts_run_by, places_in}
use Rattle.pe_frame.specs.Frames.{frame_words, words_of_context}
use Rattle.rv_insn.specs.declared.instructions.RegOp.TheVariants as reg
use Rattle.rv_word.specs.declared.micros.Register.TheVariants.{Frame, Context, Top, Datum, First, Second, Third}
use Rattle.rv_word.specs.declared.micros.Micro.{Micro}
use Rattle.rv_word.specs.declared.micros.Micro.TheVariants.{Set, Alu, Window, Get, Save, Look, Jump, Enter}
use Rattle.rv_word.specs.Costs.{set_cost, block_words}
use Rattle.rv_flow.specs.Laws.{blocks_words}
use Rattle.rv_operators.specs.Operators.{word_of}
use Rattle.rv_straight.specs.Straight.{straight_code}
use Rattle.rv_straight.proofs.Sizes.{reach_few, short as straight_short}
use Rattle.rv_select.specs.Numbers.{meet, entry_count, label_of, entry_number, entry_word, column_word, column_of, row_address}
use Rattle.rv_select.specs.Blocks.{reach, open_context, at_top, push, push_frame, bind, put_entry, index_block, purpose_block, main_block, left_block, new_block, unary_fault_blocks, binary_fault_blocks, blocks_of}
use Rattle.rv_select.proofs.Wp.{set_most}

-- ---- operations

-- a constant below 2^31 takes at most two words
set_short : (v : ℕ) → v < 2 ^ 31 → set_cost v ≤ 2
set_short v lt =
    cond_both (nat_lt v (2 ^ 11)) 1 (if nat_lt v (2 ^ 31) then 2 else 8) (λ n. n ≤ 2) (λ e. omega arith)
    (λ e. cond_both (nat_lt v (2 ^ 31)) 2 8 (λ n. n ≤ 2) (λ q. omega arith) (λ q. absurd (absurd_short v lt q)))
  where
    absurd_short : (v : ℕ) → v < 2 ^ 31 → nat_lt v (2 ^ 31) ≡ false → ⊥
    absurd_short v lt q = let le = ltb-false v (2 ^ 31) q in omega arith

room_few : (k : ℕ) → (if nat_le k 255 then 4 else 6) ≤ 6
room_few k = cond_both (nat_le k 255) 4 6 (λ n. n ≤ 6) (λ e. omega arith) (λ e. omega arith)

-- ---- one part behind another

words_behind : (xs ys : List Micro) → block_words (xs ++ ys) ≡ block_words xs + block_words ys
words_behind [] ys = omega arith
words_behind (x ∷ xs) ys = let rest = words_behind xs ys in omega arith

pub words_joined : (xs ys : List (List Micro)) → blocks_words (xs ++ ys) ≡ blocks_words xs + blocks_words ys
words_joined [] ys = omega arith
words_joined (x ∷ xs) ys = let rest = words_joined xs ys in omega arith

-- ---- the shared parts

reach_then : (k : ℕ) (rest : List Micro) → block_words (reach k ++ rest) ≤ 11 + block_words rest
reach_then k rest = let near = (reach_few First k).words in let all = words_behind (reach k) rest in omega arith

pub push_words : (entry label : ℕ) → entry < 2 ^ 28 → block_words (push entry label) ≤ 17
push_words entry label lt = let few = set_short (entry_word entry) (omega arith) in omega arith

pub push_frame_words : (entry label : ℕ) → entry < 2 ^ 28 → block_words (push_frame entry label) ≤ 18
push_frame_words entry label lt = let few = set_short (entry_word entry) (omega arith) in omega arith

-- an index is entered through a row
pub index_words : (code : PeCode) (entry : ℕ) (o : Option ℕ) → entry < 2 ^ 28 → ForSome o (λ s. row_address code s < 2 ^ 31) → block_words (index_block code entry o) ≤ 47
index_words code entry None few row = omega arith
index_words code entry (Some s) few row =
    let small = set_short (entry_word entry) (omega arith) in
    let short = set_short (row_address code s) (row s refl) in
    omega arith

pub bind_words : (d label entry : ℕ) → d ≤ 512 → entry < 2 ^ 28 → block_words (bind d label entry) ≤ 22
bind_words zero label entry deep lt = omega arith
bind_words (suc d) label entry deep lt =
    let few = set_short (entry_word entry) (omega arith) in
    let size = set_short (8 * frame_words (suc d)) (omega arith) in
    let room = room_few (frame_words (suc d)) in
    omega arith

-- ---- the blocks of an item

-- what has to be small: the depth, the numbers of entries, the address of a row and the number of parts
pub record IsSmall (code : PeCode) (d : ℕ) (i : PeInsn) : Type 0 where
  pub deep : d ≤ 512
  pub entries : (a : ℕ) → entry_number code a ≤ 2 ^ 20
  pub shape : ForSome (shape_of i) (λ s. row_address code s < 2 ^ 31)
  pub parts : length (picked_from i) < 2 ^ 31

module _ (code : PeCode) (a : ℕ) where
  escape_words : (d y : ℕ) → d ≤ 512 → entry_number code y ≤ 2 ^ 20 → block_words (main_block code a d (insn.Escape y)) ≤ 30
  escape_words zero y deep lt = let room = room_few (words_of_context + frame_words zero) in omega arith
  escape_words (suc d) y deep lt =
      let few = set_short (entry_word (entry_number code y)) (omega arith) in
      let size = set_short (8 * frame_words (suc d)) (omega arith) in
      let room = room_few (words_of_context + frame_words (suc d)) in
      omega arith

  new_words : (d y : ℕ) → d ≤ 512 → entry_number code y ≤ 2 ^ 20 → block_words (new_block code a d y) ≤ 30
  new_words zero y deep lt = omega arith
  new_words (suc d) y deep lt =
      let few = set_short (entry_word (entry_number code y)) (omega arith) in
      let size = set_short (8 * frame_words (suc d)) (omega arith) in
      let room = room_few (frame_words (suc d)) in
      omega arith

  module _ (d : ℕ) where
    unary_words : (op : UnOp) (x : ℕ) → 2 * entry_count (insn.Op1 op x) + blocks_words (unary_fault_blocks code a d op) ≤ 11
    unary_words Neg x = omega arith
    unary_words Not x = omega arith
    unary_words Ord x = omega arith
    unary_words Chr x = omega arith

    left_words : (op : BinOp) (x y : ℕ) → entry_number code a ≤ 2 ^ 20 → 2 * entry_count (insn.Op2 op x y) + (block_words (left_block code a d op y) + blocks_words (binary_fault_blocks code a d op)) ≤ 36
    left_words And x y lt = omega arith
    left_words Or x y lt = omega arith
    left_words Div x y lt = let few = set_short (entry_word (entry_number code a + 2)) (omega arith) in omega arith
    left_words op x y lt = let few = set_short (entry_word (entry_number code a + 2)) (omega arith) in omega arith

    own_push : {i : PeInsn} → IsSmall code d i → block_words (push_frame (entry_number code a + 1) 0) ≤ 18
    own_push h = let small = h.entries a in push_frame_words (entry_number code a + 1) 0 (omega arith)

    own_set : {i : PeInsn} → IsSmall code d i → set_cost (entry_word (entry_number code a + 2)) ≤ 2
    own_set h = let small = h.entries a in set_short (entry_word (entry_number code a + 2)) (omega arith)

    own_bind : {i : PeInsn} (y : ℕ) → IsSmall code d i → block_words (bind d (label_of code y) (entry_number code y)) ≤ 22
    own_bind y h = let small = h.entries y in bind_words d (label_of code y) (entry_number code y) h.deep (omega arith)

    put_few : (kind : PutKind) → put_entry kind < 2 ^ 28
    put_few kind.Int = omega arith
    put_few kind.Char = omega arith
    put_few kind.Bool = omega arith

    purpose_words : (u : Purpose) → entry_number code a ≤ 2 ^ 20 → block_words (purpose_block code a d u) ≤ 21
    purpose_words (purpose.Choose x y) lt = omega arith
    purpose_words (purpose.Repeat x) lt = let main = push_frame_words (entry_number code a + 1) 0 (omega arith) in omega arith
    purpose_words (purpose.Store x) lt = omega arith
    purpose_words (purpose.Write kind.Int) lt = omega arith
    purpose_words (purpose.Write kind.Char) lt = omega arith
    purpose_words (purpose.Write kind.Bool) lt = omega arith

    -- straight code that an item runs takes at most 23 words a part
    pub insn_words : (i : PeInsn) → IsSmall code d i → 2 * entry_count i + blocks_words (blocks_of code a d i) + 23 * places_in i ≤ 58 + 2 * length (picked_from i) + 23 * parts_run_by i
    insn_words (insn.UseVar k s) h =
        let row = set_short (row_address code s) (h.shape s refl) in
        let all = reach_then k (
        Window First 2 ∷ Get Second First 0 ∷ Get Frame First 1 ∷ Set Third (row_address code s) ∷ Alu reg.Add Second Second Third ∷ Look Second Second ∷ Enter Second ∷ []
        ) in
        omega arith
    insn_words (insn.Answer v) h = let few = set_most (word_of v) in omega arith
    insn_words (insn.Op1 op x) h =
        let small = h.entries a in
        let main = push_words (entry_number code a + 1) 0 (omega arith) in
        let others = unary_words op x in
        omega arith
    insn_words (insn.Op2 op x y) h =
        let small = h.entries a in
        let main = push_frame_words (entry_number code a + 1) 0 (omega arith) in
        let others = left_words op x y small in
        omega arith
    insn_words (insn.Cond x y z) h = let main = own_push h in omega arith
    insn_words (insn.Case x ys) h =
        let main = own_push h in
        let count = set_short (length ys) h.parts in
        let next = own_set h in
        omega arith
    insn_words (insn.Bind y) h = let body = own_bind y h in omega arith
    insn_words (insn.Pass n y) h = let column = set_most (column_word (column_of code n)) in omega arith
    insn_words (insn.PassVar k y) h =
        let all = reach_then k (
        Window First 2 ∷ Get Second First 0 ∷ Get Third First 1
        ∷ (at_top ++ (Save Top 1 Context ∷ Save Top 2 Second ∷ Save Top 3 Third ∷ open_context (label_of code y)))
        ) in
        omega arith
    insn_words (insn.PassData v y) h = let few = set_most (word_of v) in omega arith
    insn_words (insn.Field i x) h = omega arith
    insn_words (insn.Pick i x) h = omega arith
    insn_words (insn.Let n y) h = let column = set_most (column_word (column_of code n)) in let body = own_bind y h in omega arith
    insn_words (insn.LetVar k y) h =
        let body = own_bind y h in
        let all = reach_then k (Window First 2 ∷ Get Second First 1 ∷ Get First First 0 ∷ bind d (label_of code y) (entry_number code y)) in
        omega arith
    insn_words (insn.LetData v y) h = let few = set_most (word_of v) in let body = own_bind y h in omega arith
    insn_words (insn.Knot n y) h = let column = set_most (column_word (column_of code n)) in let body = own_bind y h in omega arith
    insn_words insn.Done h = omega arith
    insn_words (insn.Cells x y) h = let main = own_push h in let body = own_bind y h in omega arith
    insn_words (insn.Seq x y) h = let main = own_push h in omega arith
    insn_words (insn.Assign x y) h = let main = own_push h in omega arith
    insn_words (insn.While x y) h = let main = own_push h in let next = own_set h in omega arith
    insn_words (insn.Loop x) h = let main = own_push h in omega arith
    insn_words (insn.New x y) h =
        let main = own_push h in
        let next = new_words d y h.deep (h.entries y) in
        omega arith
    insn_words (insn.Escape y) h = let main = escape_words d y h.deep (h.entries y) in omega arith
    insn_words (insn.Accept y) h = let body = own_bind y h in omega arith
    insn_words (insn.Put kind x) h = let main = push_words (put_entry kind) 0 (put_few kind) in omega arith
    insn_words (insn.Read x) h = omega arith
    insn_words (insn.Eval ss) h =
        let own = (straight_short ss (label_of code a + 1)).words in
        let all = words_behind (straight_code ss 0 (label_of code a + 1)) (Jump meet ∷ []) in
        omega arith
    insn_words (insn.Set k ss) h =
        let own = (straight_short ss (label_of code a + 1)).words in
        let tail = reach_then k (Window First 3 ∷ Save First 2 Datum ∷ Jump meet ∷ []) in
        let all = words_behind (straight_code ss 0 (label_of code a + 1)) (reach k ++ (Window First 3 ∷ Save First 2 Datum ∷ Jump meet ∷ [])) in
        omega arith
    insn_words (insn.EvalFor ss (purpose.Repeat x)) h =
        let own = (straight_short ss (label_of code a + 2)).words in
        let tail = purpose_words (purpose.Repeat x) (h.entries a) in
        let all = words_behind (straight_code ss 0 (label_of code a + 2)) (purpose_block code a d (purpose.Repeat x)) in
        omega arith
    insn_words (insn.EvalFor ss u) h =
        let own = (straight_short ss (label_of code a + 1)).words in
        let all = words_behind (straight_code ss 0 (label_of code a + 1)) (purpose_block code a d u) in
        let tail = purpose_words u (h.entries a) in
        omega arith
