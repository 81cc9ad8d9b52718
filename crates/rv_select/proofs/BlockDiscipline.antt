-- The blocks and entries of an item are disciplined.
use Rattle.std.proofs.Common.{◌≡◌, ℕ, zero, suc, ◌+◌, ◌*◌, ◌^◌, ◌<◌, ◌≤◌, true, List, [], ◌∷◌, ◌++◌, length, map, refl, arith, lt-ltb}
use Rattle.std.proofs.lemmas.Bool.{and_from, le-leb}
use Rattle.std.proofs.lemmas.List.Elements.{All-head, All-tail}
use Rattle.std.specs.Prelude.{nat_lt, nat_le, All}
use Rattle.std.specs.Option.{ForSome}
use Rattle.fy_base.specs.declared.data.Datum.{Datum as DatumType}
use Rattle.fy_base.specs.declared.data.UnOp.{UnOp}
use Rattle.fy_base.specs.declared.data.UnOp.TheVariants.{Neg, Not, Ord, Chr}
use Rattle.fy_base.specs.declared.data.BinOp.{BinOp}
use Rattle.fy_base.specs.declared.data.BinOp.TheVariants.{Add, Sub, Mul, Div, Rem, And, Or}
use Rattle.fy_base.specs.declared.data.PutKind.{PutKind}
use Rattle.fy_base.specs.declared.data.PutKind.TheVariants as kind
use Rattle.pe_code.specs.declared.code.PeInsn.{PeInsn}
use Rattle.pe_code.specs.declared.code.PeInsn.TheVariants as insn
use Rattle.pe_code.specs.declared.code.Purpose.{Purpose}
use Rattle.pe_code.specs.declared.code.Purpose.TheVariants as purpose
use Rattle.pe_code.specs.declared.code.PeCode.{PeCode}
use Rattle.pe_code.specs.declared.code.StraightPart.{StraightPart}
use Rattle.pe_code.specs.Code.{served_by, beside, body_of, variable_of, shape_of, picked_from, straight_of}
use Rattle.pe_frame.specs.Frames.{frame_words, display_start, words_of_context}
use Rattle.fy_base.specs.declared.data.FaultKind.TheVariants as fault
use Rattle.rv_word.specs.declared.micros.Micro.{Micro}
use Rattle.rv_insn.specs.declared.instructions.BranchOp.TheVariants.{Beq, Bne}
use Rattle.rv_word.specs.declared.micros.Micro.TheVariants.{Window, Save, Room, Test, Jump, Put, Fault}
use Rattle.rv_word.specs.declared.micros.Register.TheVariants.{Zero, Frame, Context, Top, Datum, First}
use Rattle.rv_word.specs.Word.{zeros}
use Rattle.rv_word.specs.Discipline.{Bounds, is_disciplined_from, are_disciplined, are_below}
use Rattle.rv_runtime.specs.Routines.{exhausted, put_true, put_false, put_int, make_frame}
use Rattle.rv_operators.specs.Operators.{word_of, unary_label, binary_label}
use Rattle.rv_straight.specs.Straight.{word_of_frame, fault_blocks}
use Rattle.rv_straight.specs.Laws.{IsFine}
use Rattle.rv_straight.proofs.Fine.{reach_needs, disciplined, faults_fine}
use Rattle.rv_select.specs.Numbers.{meet, first_operator, pop_label, count_label, first_item, block_count, faults_from, first_fault, label_of, entry_number, entry_word, column_word, column_of, row_address}
use Rattle.rv_select.specs.Blocks.{move, open_context, push, push_frame, bind, reach, put_entry, main_block, left_block, if_block, case_block, then_block, assign_block, while_block, again_block, new_block, unary_fault_blocks, binary_fault_blocks, blocks_of, entries_of}
use Rattle.rv_select.specs.Laws.{value_of}
use Rattle.rv_select.proofs.PartDiscipline.{IsLabel, IsWord, chained, reach_fine, push_fine, push_frame_fine, bind_fine}

-- ---- what the numbers in blocks have to meet

-- whatever the item
pub record Fits (code : PeCode) (b : Bounds) : Type 0 where
  pub fixed : first_item ≤ b.blocks
  pub words : (a : ℕ) → entry_number code a ≤ 2 ^ 20
  pub columns : (node : ℕ) → IsWord (column_word (column_of code node))
  pub indexed : ForSome code.sequences.value (λ s. (nat_le 1 b.table_words ≡ true) × IsWord (row_address code s))

-- and those of an instruction at depth d and address a
pub record InsnFits (code : PeCode) (b : Bounds) (a d : ℕ) (i : PeInsn) : Type 0 where
  pub deep : d ≤ 512
  pub here : IsLabel b (label_of code a)
  pub own : (k : ℕ) → k < block_count i → IsLabel b (label_of code a + k)
  pub place : nat_lt a b.places ≡ true
  pub beside : All (λ x. IsLabel b (label_of code x)) (beside i)
  pub body : ForSome (body_of i) (λ y. IsLabel b (label_of code y))
  pub variable : ForSome (variable_of i) (λ k. k < 512)
  pub shape : ForSome (shape_of i) (λ s. (nat_le 1 b.table_words ≡ true) × IsWord (row_address code s))
  pub parts : IsWord (length (picked_from i))
  pub value : ForSome (value_of i) (λ v. IsWord (word_of v))
  pub straight : ForSome (straight_of i) (λ ss. All (λ s. IsFine b.places s) ss)
  pub faults : ForSome (straight_of i) (λ ss. label_of code a + first_fault i + length (fault_blocks ss) ≤ b.blocks)

-- ---- the blocks of an item

module _ (code : PeCode) (b : Bounds) (fits : Fits code b) where
  pub low : (label : ℕ) → label < first_item → IsLabel b label
  low label lt = let fixed = fits.fixed in lt-ltb label b.blocks (omega arith)

  entry_fits : (a k : ℕ) → k ≤ 2 → IsWord (entry_word (entry_number code a + k))
  entry_fits a k le = let few = fits.words a in lt-ltb (entry_word (entry_number code a + k)) (2 ^ 64) (omega arith)

  body_fits : (a : ℕ) → IsWord (entry_word (entry_number code a))
  body_fits a = let few = fits.words a in lt-ltb (entry_word (entry_number code a)) (2 ^ 64) (omega arith)

  parts_below : (ys : List ℕ) → All (λ y. IsLabel b (label_of code y)) ys → are_below b.blocks (map (label_of code) ys) ≡ true
  parts_below [] h = refl
  parts_below (y ∷ ys) h =
      and_from (nat_lt (label_of code y) b.blocks) (are_below b.blocks (map (label_of code) ys)) (All-head (λ z. IsLabel b (label_of code z)) y ys h)
      (parts_below ys (All-tail (λ z. IsLabel b (label_of code z)) y ys h))

  escape_fine : (a d y : ℕ) → d ≤ 512 → IsLabel b (label_of code y) → is_disciplined_from b zeros (main_block code a d (insn.Escape y)) ≡ true
  escape_fine a zero y deep there = simp (low exhausted (omega arith), there)
  escape_fine a (suc d) y deep there =
      simp (le-leb (words_of_context + frame_words (suc d)) 4096 (omega arith), lt-ltb (8 * frame_words (suc d)) (2 ^ 64) (omega arith), low exhausted (omega arith), low make_frame (omega arith), body_fits y)

  new_fine : (a d y : ℕ) → d ≤ 512 → IsLabel b (label_of code y) → is_disciplined_from b zeros (new_block code a d y) ≡ true
  new_fine a zero y deep there = simp (low exhausted (omega arith), there)
  new_fine a (suc d) y deep there =
      simp (le-leb (frame_words (suc d)) 4096 (omega arith), lt-ltb (8 * frame_words (suc d)) (2 ^ 64) (omega arith), low exhausted (omega arith), low make_frame (omega arith), body_fits y)

  module _ (a d : ℕ) where
    unary_faults_fine : (op : UnOp) → nat_lt a b.places ≡ true → are_disciplined b (unary_fault_blocks code a d op) ≡ true
    unary_faults_fine Neg place = simp place
    unary_faults_fine Chr place = simp place
    unary_faults_fine Not place = refl
    unary_faults_fine Ord place = refl

    binary_faults_fine : (op : BinOp) → nat_lt a b.places ≡ true → are_disciplined b (binary_fault_blocks code a d op) ≡ true
    binary_faults_fine Add place = simp place
    binary_faults_fine Sub place = simp place
    binary_faults_fine Mul place = simp place
    binary_faults_fine Div place = simp place
    binary_faults_fine Rem place = simp place
    binary_faults_fine op place = refl

    left_fine : (op : BinOp) (y : ℕ) → IsLabel b (label_of code y) → is_disciplined_from b zeros (left_block code a d op y) ≡ true
    left_fine And y there = simp (low meet (omega arith), there)
    left_fine Or y there = simp (low meet (omega arith), there)
    left_fine op y there = simp (entry_fits a 2 (omega arith), there)

    -- a block that pushes a context with its own entry, and those behind it
    pushed : (x : ℕ) (rest : List (List Micro)) → IsLabel b (label_of code x) → are_disciplined b rest ≡ true → are_disciplined b (push_frame (entry_number code a + 1) (label_of code x) ∷ rest) ≡ true
    pushed x rest there h =
        and_from (is_disciplined_from b zeros (push_frame (entry_number code a + 1) (label_of code x))) (are_disciplined b rest)
        (push_frame_fine b (entry_number code a + 1) (label_of code x) (low exhausted (omega arith)) (entry_fits a 1 (omega arith)) there) h

    -- a block alone
    alone : (ops : List Micro) → is_disciplined_from b zeros ops ≡ true → are_disciplined b (ops ∷ []) ≡ true
    alone ops h = and_from (is_disciplined_from b zeros ops) true h refl

    bound : (y : ℕ) → d ≤ 512 → IsLabel b (label_of code y) → is_disciplined_from b zeros (bind d (label_of code y) (entry_number code y)) ≡ true
    bound y deep there = bind_fine b zeros d (label_of code y) (entry_number code y) deep (low exhausted (omega arith)) (low make_frame (omega arith)) (body_fits y) there

    -- of a thunk of a node
    bound_node : (n y : ℕ) → d ≤ 512 → IsLabel b (label_of code y) → is_disciplined_from b zeros (main_block code a d (insn.Let n y)) ≡ true
    bound_node n y deep there =
        and_from (nat_lt (column_word (column_of code n)) (2 ^ 64)) (is_disciplined_from b zeros (bind d (label_of code y) (entry_number code y))) (fits.columns n) (bound y deep there)

    -- of a datum
    bound_datum : (v : DatumType) (y : ℕ) → d ≤ 512 → IsWord (word_of v) → IsLabel b (label_of code y) → is_disciplined_from b zeros (main_block code a d (insn.LetData v y)) ≡ true
    bound_datum v y deep word there =
        and_from (nat_lt (word_of v) (2 ^ 64)) (is_disciplined_from b zeros (bind d (label_of code y) (entry_number code y))) word (bound y deep there)

    put_word : (kind : PutKind) → IsWord (entry_word (put_entry kind))
    put_word kind.Int = refl
    put_word kind.Char = refl
    put_word kind.Bool = refl

    -- straight code whose datum a variable's own cell takes
    set_fine : (k : ℕ) (ss : List StraightPart) → k < 512 → All (λ s. IsFine b.places s) ss → label_of code a + 1 + length (fault_blocks ss) ≤ b.blocks
        → is_disciplined_from b zeros (main_block code a d (insn.Set k ss)) ≡ true
    set_fine zero ss lt fine fits =
        disciplined b zeros ss (label_of code a + 1) (move First Frame) (Window First 3 ∷ Save First 2 Datum ∷ Jump meet ∷ []) fine fits (λ w. simp (low meet (omega arith)))
    set_fine (suc k) ss lt fine fits =
        disciplined b zeros ss (label_of code a + 1) (Window Frame (display_start + suc k)) (word_of_frame First (display_start + k) ++ (Window First 3 ∷ Save First 2 Datum ∷ Jump meet ∷ [])) fine fits
        (λ w. chained b w (reach (suc k)) (Window First 3) (Save First 2 Datum ∷ Jump meet ∷ []) (reach_needs b 1 (suc k) w lt) (λ v. simp (low meet (omega arith))))

    -- straight code for a purpose
    for_fine : (ss : List StraightPart) (u : Purpose) → All (λ s. IsFine b.places s) ss → label_of code a + faults_from u + length (fault_blocks ss) ≤ b.blocks → All (λ x. IsLabel b (label_of code x)) (served_by u)
        → is_disciplined_from b zeros (main_block code a d (insn.EvalFor ss u)) ≡ true
    for_fine ss (purpose.Choose x y) fine fits beside =
        disciplined b zeros ss (label_of code a + 1) (Test Beq Datum Zero (label_of code y)) (Jump (label_of code x) ∷ []) fine fits (λ w. simp (beside 0 0 (omega arith), beside 1 0 (omega arith)))
    for_fine ss (purpose.Repeat x) fine fits beside =
        disciplined b zeros ss (label_of code a + 2) (Test Beq Datum Zero meet) (push_frame (entry_number code a + 1) (label_of code x)) fine fits
        (λ w. simp (low meet (omega arith), low exhausted (omega arith), entry_fits a 1 (omega arith), beside 0 0 (omega arith)))
    for_fine ss (purpose.Store x) fine fits beside =
        disciplined b zeros ss (label_of code a + 1) (Room words_of_context exhausted) (Window Top words_of_context ∷ Save Top 1 Context ∷ Save Top 2 Datum ∷ open_context (label_of code x)) fine fits
        (λ w. simp (low exhausted (omega arith), beside 0 0 (omega arith)))
    for_fine ss (purpose.Write kind.Int) fine fits beside = disciplined b zeros ss (label_of code a + 1) (Jump put_int) [] fine fits (λ w. simp (low put_int (omega arith)))
    for_fine ss (purpose.Write kind.Char) fine fits beside = disciplined b zeros ss (label_of code a + 1) (Put Datum) (Jump meet ∷ []) fine fits (λ w. simp (low meet (omega arith)))
    for_fine ss (purpose.Write kind.Bool) fine fits beside =
        disciplined b zeros ss (label_of code a + 1) (Test Bne Datum Zero put_true) (Jump put_false ∷ []) fine fits (λ w. simp (low put_true (omega arith), low put_false (omega arith)))

    pub blocks_fine : (i : PeInsn) → InsnFits code b a d i → are_disciplined b (blocks_of code a d i) ≡ true
    blocks_fine (insn.UseVar k s) h =
        let shape = h.shape s refl in
        alone (main_block code a d (insn.UseVar k s))
        (chained b zeros (reach k) _ _ (reach_fine b k (h.variable k refl)) (λ v. simp (shape.0, shape.1)))
    blocks_fine (insn.Answer v) h = simp (h.value v refl, low meet (omega arith))
    blocks_fine (insn.Op1 op x) h =
        and_from (is_disciplined_from b zeros (push (entry_number code a + 1) (label_of code x))) (are_disciplined b (unary_fault_blocks code a d op))
        (push_fine b (entry_number code a + 1) (label_of code x) (low exhausted (omega arith)) (entry_fits a 1 (omega arith)) (h.beside 0 0 (omega arith)))
        (unary_faults_fine op h.place)
    blocks_fine (insn.Op2 op x y) h =
        pushed x (left_block code a d op y ∷ binary_fault_blocks code a d op) (h.beside 0 0 (omega arith))
        (and_from (is_disciplined_from b zeros (left_block code a d op y)) (are_disciplined b (binary_fault_blocks code a d op)) (left_fine op y (h.beside 1 0 (omega arith))) (binary_faults_fine op h.place))
    blocks_fine (insn.Cond x y z) h =
        pushed x (if_block code a d y z ∷ []) (h.beside 0 0 (omega arith)) (simp (h.beside 2 0 (omega arith), h.beside 1 0 (omega arith)))
    blocks_fine (insn.Case x ys) h =
        pushed x (case_block code a d (length ys) ∷ (Fault fault.Range a ∷ []) ∷ []) (h.beside 0 0 (omega arith))
        (simp (h.parts, h.own 2 (omega arith), entry_fits a 2 (omega arith), h.place))
    blocks_fine (insn.Bind y) h = alone (main_block code a d (insn.Bind y)) (bound y h.deep (h.body y refl))
    blocks_fine (insn.Pass n y) h = simp (low exhausted (omega arith), fits.columns n, h.beside 0 0 (omega arith))
    blocks_fine (insn.PassVar k y) h =
        alone (main_block code a d (insn.PassVar k y))
        (chained b zeros (reach k) _ _ (reach_fine b k (h.variable k refl)) (λ v. simp (low exhausted (omega arith), h.beside 0 0 (omega arith))))
    blocks_fine (insn.PassData v y) h = simp (low exhausted (omega arith), h.value v refl, h.beside 0 0 (omega arith))
    blocks_fine (insn.Field i x) h = simp (h.beside 0 0 (omega arith))
    blocks_fine (insn.Pick i x) h = simp (low exhausted (omega arith), h.beside 0 0 (omega arith))
    blocks_fine (insn.Let n y) h = alone (main_block code a d (insn.Let n y)) (bound_node n y h.deep (h.body y refl))
    blocks_fine (insn.LetVar k y) h =
        alone (main_block code a d (insn.LetVar k y))
        (chained b zeros (reach k) _ _ (reach_fine b k (h.variable k refl)) (λ v. bound y h.deep (h.body y refl)))
    blocks_fine (insn.LetData v y) h = alone (main_block code a d (insn.LetData v y)) (bound_datum v y h.deep (h.value v refl) (h.body y refl))
    blocks_fine (insn.Knot n y) h = alone (main_block code a d (insn.Let n y)) (bound_node n y h.deep (h.body y refl))
    blocks_fine insn.Done h = simp (low meet (omega arith))
    blocks_fine (insn.Cells x y) h =
        pushed x (bind d (label_of code y) (entry_number code y) ∷ (Fault fault.Range a ∷ []) ∷ []) (h.beside 0 0 (omega arith))
        (and_from (is_disciplined_from b zeros (bind d (label_of code y) (entry_number code y))) (are_disciplined b ((Fault fault.Range a ∷ []) ∷ [])) (bound y h.deep (h.body y refl)) (simp h.place))
    blocks_fine (insn.Seq x y) h = pushed x (then_block code a d y ∷ []) (h.beside 0 0 (omega arith)) (simp (h.beside 1 0 (omega arith)))
    blocks_fine (insn.Assign x y) h = pushed y (assign_block code a d x ∷ []) (h.beside 1 0 (omega arith)) (simp (h.beside 0 0 (omega arith)))
    blocks_fine (insn.While x y) h =
        pushed x (while_block code a d y ∷ again_block code a d ∷ []) (h.beside 0 0 (omega arith))
        (simp (low pop_label (omega arith), entry_fits a 2 (omega arith), h.beside 1 0 (omega arith), h.here))
    blocks_fine (insn.Loop x) h = pushed x (again_block code a d ∷ []) (h.beside 0 0 (omega arith)) (simp h.here)
    blocks_fine (insn.New x y) h =
        pushed x (new_block code a d y ∷ []) (h.beside 0 0 (omega arith)) (alone (new_block code a d y) (new_fine a d y h.deep (h.body y refl)))
    blocks_fine (insn.Escape y) h = alone (main_block code a d (insn.Escape y)) (escape_fine a d y h.deep (h.body y refl))
    blocks_fine (insn.Accept y) h = alone (main_block code a d (insn.Accept y)) (bound y h.deep (h.body y refl))
    blocks_fine (insn.Put kind x) h =
        alone (main_block code a d (insn.Put kind x)) (push_fine b (put_entry kind) (label_of code x) (low exhausted (omega arith)) (put_word kind) (h.beside 0 0 (omega arith)))
    blocks_fine (insn.Read x) h = simp (low exhausted (omega arith), h.beside 0 0 (omega arith))
    blocks_fine (insn.Eval ss) h =
        let fine = h.straight ss refl in
        and_from (is_disciplined_from b zeros (main_block code a d (insn.Eval ss))) (are_disciplined b (fault_blocks ss))
        (disciplined b zeros ss (label_of code a + 1) (Jump meet) [] fine (h.faults ss refl) (λ w. simp (low meet (omega arith)))) (faults_fine b ss fine)
    blocks_fine (insn.Set k ss) h =
        let fine = h.straight ss refl in
        and_from (is_disciplined_from b zeros (main_block code a d (insn.Set k ss))) (are_disciplined b (fault_blocks ss))
        (set_fine k ss (h.variable k refl) fine (h.faults ss refl)) (faults_fine b ss fine)
    blocks_fine (insn.EvalFor ss (purpose.Repeat x)) h =
        let fine = h.straight ss refl in
        let others : are_disciplined b (again_block code a d ∷ fault_blocks ss) ≡ true = and_from (is_disciplined_from b zeros (again_block code a d)) (are_disciplined b (fault_blocks ss)) (simp h.here) (faults_fine b ss fine) in
        and_from (is_disciplined_from b zeros (main_block code a d (insn.EvalFor ss (purpose.Repeat x)))) (are_disciplined b (again_block code a d ∷ fault_blocks ss)) (for_fine ss (purpose.Repeat x) fine (h.faults ss refl) h.beside) others
    blocks_fine (insn.EvalFor ss u) h =
        let fine = h.straight ss refl in
        and_from (is_disciplined_from b zeros (main_block code a d (insn.EvalFor ss u))) (are_disciplined b (fault_blocks ss)) (for_fine ss u fine (h.faults ss refl) h.beside) (faults_fine b ss fine)

    -- ---- its entries

    unary_entries_fine : (op : UnOp) (x : ℕ) → InsnFits code b a d (insn.Op1 op x) → are_below b.blocks (entries_of code a d (insn.Op1 op x)) ≡ true
    unary_entries_fine Neg x h = simp (h.own 0 (omega arith), low (unary_label first_operator Neg) (omega arith), h.own 1 (omega arith))
    unary_entries_fine Chr x h = simp (h.own 0 (omega arith), low (unary_label first_operator Chr) (omega arith), h.own 1 (omega arith))
    unary_entries_fine Not x h = simp (h.own 0 (omega arith), low (unary_label first_operator Not) (omega arith))
    unary_entries_fine Ord x h = simp (h.own 0 (omega arith), low (unary_label first_operator Ord) (omega arith))

    binary_entries_fine : (op : BinOp) (x y : ℕ) → InsnFits code b a d (insn.Op2 op x y) → are_below b.blocks (entries_of code a d (insn.Op2 op x y)) ≡ true
    binary_entries_fine And x y h = simp (h.own 0 (omega arith), h.own 1 (omega arith))
    binary_entries_fine Or x y h = simp (h.own 0 (omega arith), h.own 1 (omega arith))
    binary_entries_fine Div x y h = simp (h.own 0 (omega arith), h.own 1 (omega arith), low (binary_label first_operator Div) (omega arith), h.own 2 (omega arith), h.own 3 (omega arith))
    binary_entries_fine Add x y h = simp (h.own 0 (omega arith), h.own 1 (omega arith), low (binary_label first_operator Add) (omega arith), h.own 2 (omega arith))
    binary_entries_fine Sub x y h = simp (h.own 0 (omega arith), h.own 1 (omega arith), low (binary_label first_operator Sub) (omega arith), h.own 2 (omega arith))
    binary_entries_fine Mul x y h = simp (h.own 0 (omega arith), h.own 1 (omega arith), low (binary_label first_operator Mul) (omega arith), h.own 2 (omega arith))
    binary_entries_fine Rem x y h = simp (h.own 0 (omega arith), h.own 1 (omega arith), low (binary_label first_operator Rem) (omega arith), h.own 2 (omega arith))
    binary_entries_fine op x y h = simp (h.own 0 (omega arith), h.own 1 (omega arith), low (binary_label first_operator op) (omega arith))

    pub entries_fine : (i : PeInsn) → InsnFits code b a d i → are_below b.blocks (entries_of code a d i) ≡ true
    entries_fine (insn.Op1 op x) h = unary_entries_fine op x h
    entries_fine (insn.Op2 op x y) h = binary_entries_fine op x y h
    entries_fine (insn.Cond x y z) h = simp (h.own 0 (omega arith), h.own 1 (omega arith))
    entries_fine (insn.Case x ys) h = simp (h.own 0 (omega arith), h.own 1 (omega arith)) (parts_below ys (All-tail (λ y. IsLabel b (label_of code y)) x ys h.beside))
    entries_fine (insn.Seq x y) h = simp (h.own 0 (omega arith), h.own 1 (omega arith))
    entries_fine (insn.Assign x y) h = simp (h.own 0 (omega arith), h.own 1 (omega arith))
    entries_fine (insn.While x y) h = simp (h.own 0 (omega arith), h.own 1 (omega arith), h.own 2 (omega arith))
    entries_fine (insn.Loop x) h = simp (h.own 0 (omega arith), h.own 1 (omega arith))
    entries_fine (insn.EvalFor ss (purpose.Repeat x)) h = simp (h.own 0 (omega arith), h.own 1 (omega arith))
    entries_fine (insn.EvalFor ss u) h = simp (h.own 0 (omega arith))
    entries_fine (insn.New x y) h = simp (h.own 0 (omega arith), h.own 1 (omega arith))
    entries_fine (insn.Cells x y) h = simp (h.own 0 (omega arith), low count_label (omega arith), h.own 1 (omega arith), low pop_label (omega arith), h.own 2 (omega arith))
    entries_fine i h = simp (h.own 0 (omega arith))
